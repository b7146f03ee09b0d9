-- Laws of dotted text, over the reading and the text that the contracts cite.
use Rattle.std.specs.Prelude.{◌≡◌, ℕ, ◌+◌, ◌-◌, ◌<◌, ◌≤◌, Bool, true, false, cond, ◌&&◌, ◌||◌, List, ◌++◌, length, drop, Ok, Err, Result, ◌==◌, nat_lt, slice_index}
use Rattle.std.specs.List.{between}
use Rattle.std.specs.Result.{result_map_both}
use Rattle.oid.specs.Refusals.{number_of, fault_at, answered}
use Rattle.oid.specs.Tree.{is_identifier}
use Rattle.oid.specs.declared.refusal.Fault.{Fault}
use Rattle.oid.specs.declared.refusal.Refusal.{Refusal}
use Rattle.oid.specs.declared.refusal.Refusal.TheVariants.{NotDotted, ArcCount}
use Rattle.dotted.specs.Form.{is_dot, is_digit}
use Rattle.dotted.specs.Prefix.{prefix, prefix_length}
use Rattle.dotted.specs.Reading.{read_dotted}
use Rattle.dotted.specs.Writing.{dotted_text}

-- What follows the prefix, if there is one, is the text of these arcs, and they are an identifier.
abbrev pub Writes : List ℕ → List ℕ → Type 0
Writes text arcs = (is_identifier arcs ≡ true) × (drop (prefix_length text) text ≡ dotted_text arcs)

-- A reader that gives `answer`, and leaves the caller's identifier with `arcs`, accepts a text exactly when it is the
-- text of an identifier, after any prefix; and then the identifier has its arcs.
abbrev pub Exactly : List ℕ → Result (Unit {0}) Fault → List ℕ → Type 0
Exactly text answer arcs =
    (answer ≡ Ok tt → Writes text arcs)
    × ((others : List ℕ) → Writes text others → (answer ≡ Ok tt) × (arcs ≡ others))

-- What stands in the page from a place to an end is read as these arcs.
abbrev pub ReadsBack : List ℕ → ℕ → ℕ → List ℕ → Type 0
ReadsBack page place end arcs = read_dotted (between place end page) ≡ Ok arcs

-- Two texts without a prefix that read to one identifier are equal.
abbrev pub OneText : Type 0
OneText =
    (one other arcs : List ℕ)
    → prefix_length one ≡ 0 → prefix_length other ≡ 0
    → read_dotted one ≡ Ok arcs → read_dotted other ≡ Ok arcs
    → one ≡ other

-- the offset of a fault, so many bytes further on; a wrong count of arcs is at no byte, and stays at 0
abbrev pub offset_further : ℕ → Refusal → ℕ → ℕ
offset_further bytes refusal offset = cond (number_of refusal == number_of ArcCount) offset (offset + bytes)

-- the same fault, so many bytes further on
abbrev pub further : ℕ → Fault → Fault
further bytes fault = fault_at fault.refusal (offset_further bytes fault.refusal fault.offset)

-- the reading of a text that begins so many bytes further on
abbrev pub read_further : ℕ → Result (List ℕ) Fault → Result (List ℕ) Fault
read_further bytes reading = result_map_both (λ arcs. arcs) (further bytes) reading

-- The prefix before a text that does not itself begin with it changes no answer, except that faults at a byte are
-- further on by the prefix's length.
abbrev pub PrefixMovesFaults : Type 0
PrefixMovesFaults =
    (rest : List ℕ) → prefix_length rest ≡ 0 → read_dotted (prefix ++ rest) ≡ read_further (length prefix) (read_dotted rest)

-- The same of a reader's answer to a text that is the prefix and then such a rest.
abbrev pub Prefixed : List ℕ → Result (Unit {0}) Fault → Type 0
Prefixed text answer =
    (rest : List ℕ)
    → prefix_length rest ≡ 0 → text ≡ prefix ++ rest
    → answer ≡ answered (read_further (length prefix) (read_dotted rest))

-- A byte fits where it stands, in what begins at `start`: it is a digit, or a dot with a digit on either side.
abbrev pub fits_at : List ℕ → ℕ → ℕ → Bool
fits_at text start i =
    is_digit (slice_index text i)
    || (is_dot (slice_index text i) && ((nat_lt start i && is_digit (slice_index text (i - 1))) && is_digit (slice_index text (i + 1))))

-- The first index from `start` on where no byte fits. A byte stands there, unless none follows `start`.
abbrev pub FirstMisfit : List ℕ → ℕ → ℕ → Type 0
FirstMisfit text start at =
    (start ≤ at)
    × (fits_at text start at ≡ false)
    × ((i : ℕ) → start ≤ i → i < at → fits_at text start i ≡ true)
    × (start < length text → at < length text)

-- A text that a reader refuses for its form is refused at the first byte that does not fit, or at the prefix's end.
abbrev pub MalformedAtFirst : List ℕ → Result (Unit {0}) Fault → Type 0
MalformedAtFirst text answer =
    (at : ℕ) → answer ≡ Err (fault_at NotDotted at) → FirstMisfit text (prefix_length text) at
