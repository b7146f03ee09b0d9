-- Counter calls as they are written.
use Rattle.std.specs.Prelude.{ℕ, ◌≡◌, ◌⊎◌, Bool, true, ◌&&◌, List, [], ◌∷◌, ◌++◌, decimal, nat_le, Ok}
use Rattle.std.specs.List.{join_with_byte}
use Rattle.oid.specs.Tree.{is_identifier}
use Rattle.dotted.specs.Prefix.{prefix}
use Rattle.dotted.specs.Writing.{dotted_text}
use Rattle.request.specs.Fields.{space}
use Rattle.counter.specs.Calls.{Call, collect, accept, decline, terms, left, tells}
use Rattle.counter.specs.Names.{name_text}
use Rattle.counter.specs.Reading.{most_number, read_call}
use Rattle.counter.specs.declared.name.Name.TheVariants.{Collect, Accept, Decline, Terms, Left, Tells}

-- the entry that a call names; none is named by the last
abbrev pub entry_of : Call → List ℕ
entry_of (collect taker entry) = entry
entry_of (accept entry) = entry
entry_of (decline entry) = entry
entry_of (terms entry) = entry
entry_of (left entry) = entry
entry_of tells = []

-- the words of a call's line, with some text for its entry
abbrev pub call_words : Call → List ℕ → List (List ℕ)
call_words (collect taker entry) text = name_text Collect ∷ decimal taker ∷ text ∷ []
call_words (accept entry) text = name_text Accept ∷ text ∷ []
call_words (decline entry) text = name_text Decline ∷ text ∷ []
call_words (terms entry) text = name_text Terms ∷ text ∷ []
call_words (left entry) text = name_text Left ∷ text ∷ []
call_words tells text = name_text Tells ∷ []

-- the taker is a number of 32 bits, and the entry an identifier
abbrev pub is_call : Call → Bool
is_call (collect taker entry) = nat_le taker most_number && is_identifier entry
is_call (accept entry) = is_identifier entry
is_call (decline entry) = is_identifier entry
is_call (terms entry) = is_identifier entry
is_call (left entry) = is_identifier entry
is_call tells = true

-- A line makes a call: it is the call's words with one space between, with the prefix before the entry or without.
pub record Makes (line : List ℕ) (call : Call) : Type 0 where
  pub ranged : is_call call ≡ true
  pub prefix_or_none : List ℕ
  pub prefixed : (prefix_or_none ≡ []) ⊎ (prefix_or_none ≡ prefix)
  pub written : line ≡ join_with_byte space (call_words call (prefix_or_none ++ dotted_text (entry_of call)))

-- A line is read as a call exactly when it makes it.
abbrev pub ReadExactly : Type 0
ReadExactly = (line : List ℕ) (call : Call) → (read_call line ≡ Ok call → Makes line call) × (Makes line call → read_call line ≡ Ok call)
