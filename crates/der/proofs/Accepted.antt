-- Bytes that are read as an identifier are its encoding, and what follows.
use Rattle.std.proofs.Common.{◌≡◌, ℕ, suc, ◌+◌, ◌-◌, ◌<◌, ◌≤◌, Bool, true, false, cond, List, [], ◌∷◌, ◌++◌, map, length, get_or, drop, None, Ok, sym, refl, ap, ◌∙◌, ⊎_elim, arith}
use Rattle.std.specs.List.{flat_map, AllByRecursion as All}
use Rattle.std.proofs.lemmas.List.{length-take, get_or-take, get_or-drop, get_or_past}
use Rattle.std.proofs.lemmas.Bool.{ltb-true, ltb-false, both_ways, cases_lt}
use Rattle.oid.specs.Numbers.{values, first_at}
use Rattle.oid.specs.Refusals.{fault_at}
use Rattle.oid.specs.declared.refusal.Refusal.TheVariants.{Padded}
use Rattle.oid.proofs.Numbers.{none_mapped, yes_cond, asked, accepted, first_at_none}
use Rattle.std.proofs.lemmas.Bool.Decides.{nat_tests}
use Rattle.std.proofs.lemmas.Grind.{common_steps}
use Rattle.der.specs.Base128.{more, is_last}
use Rattle.der.specs.Header.{tag, header_length, length_in, taken_in, contents_in, bad_header}
use Rattle.der.specs.Laws.{Bytes, Encodes}
use Rattle.der.specs.Reading.{unfinished, padded_subidentifiers, read_subidentifiers, read_der}
use Rattle.der.specs.Subidentifiers.{Series, longer, series_from, number_in, subidentifiers_from, arcs_in, arc_numbers}
use Rattle.der.specs.Writing.{subidentifiers_of, contents_of}
use Rattle.der.proofs.Accepting.{Ends}
use Rattle.der.proofs.Contents.{written, contents_written, bytes_are}
use Rattle.der.proofs.Digits.{SeriesOfOne, base128_value}
use Rattle.der.proofs.Joining.{joined_again}
use Rattle.der.proofs.Reading.{values_arcs, read_arcs}
use Rattle.der.proofs.Series.{series_next}

-- the series make up the contents
abbrev bytes_in : Series → List ℕ
bytes_in series = series.bytes

longer_joined : (offset byte : ℕ) (series : List Series)
    → flat_map bytes_in (longer offset byte series) ≡ byte ∷ flat_map bytes_in series
longer_joined offset byte [] = refl
longer_joined offset byte (first ∷ others) = refl

all_series : (bytes : List ℕ) (offset : ℕ) → flat_map bytes_in (series_from offset bytes) ≡ bytes
unfolding series_from
all_series [] offset = refl
all_series (byte ∷ rest) offset =
    let others = all_series rest (offset + 1) in
    let longer = longer_joined offset byte (series_from (offset + 1) rest) in
    grind (arith, nat_tests)

-- each series of contents that end with a last byte is one number's
abbrev One : Series → Type 0
One series = SeriesOfOne series.bytes

longer_one : (byte : ℕ) (bytes : List ℕ) → 128 ≤ byte → byte < 256 → SeriesOfOne bytes → SeriesOfOne (byte ∷ bytes)
longer_one byte [] low high h = absurd h
longer_one byte (next ∷ rest) low high h = (low, high, h)

longer_all : (offset byte : ℕ) (series : List Series) → 128 ≤ byte → byte < 256 → 0 < length series
    → All One series → All One (longer offset byte series)
longer_all offset byte [] low high some all = absurd (omega arith)
longer_all offset byte (first ∷ others) low high some all = (longer_one byte first.bytes low high all.0, all.1)

ends_rest : (byte next : ℕ) (rest : List ℕ) → Ends (byte ∷ (next ∷ rest)) → Ends (next ∷ rest)
ends_rest byte next rest h = grind (arith, nat_tests, common_steps)

all_one : (bytes : List ℕ) (offset : ℕ) → Bytes bytes → Ends bytes → All One (series_from offset bytes)
unfolding series_from
all_one [] offset each ends = tt
all_one (byte ∷ []) offset each ends = go (is_last byte) refl
  where
    go : (v : Bool) → is_last byte ≡ v
        → All One (cond v (record { offset = offset; bytes = byte ∷ [] } ∷ []) (longer offset byte []))
    go true e = (ltb-true byte more e, tt)
    go false e = absurd (both_ways (is_last byte) e ends)
all_one (byte ∷ (next ∷ rest)) offset each ends =
    go (is_last byte) refl (all_one (next ∷ rest) (offset + 1) (λ i. each (suc i)) (ends_rest byte next rest ends))
  where
    later : List Series
    later = series_from (offset + 1) (next ∷ rest)

    go : (v : Bool) → is_last byte ≡ v → All One later
        → All One (cond v (record { offset = offset; bytes = byte ∷ [] } ∷ later) (longer offset byte later))
    go true e all = (ltb-true byte more e, all)
    go false e all =
        longer_all offset byte later (ltb-false byte more e) (each 0) (omega (arith, ap length (series_next (offset + 1) (next ∷ rest) (omega arith)))) all

-- series of which none begins with 80 are the bytes of their values
spelled : (series : List Series) → All One series → first_at (λ number. number.padded) (map number_in series) ≡ None
    → flat_map bytes_in series ≡ written (values (map number_in series))
spelled [] all fresh = refl
spelled (first ∷ others) all fresh =
    let parts = first_at_none (λ number. number.padded) (number_in first) (map number_in others) fresh in
    let here = base128_value first.bytes all.0 parts.0 in
    let rest = spelled others all.1 parts.1 in
    λ k. here k ++ rest k

pub contents_spelled : (contents : List ℕ) (offset : ℕ) → Bytes contents → Ends contents
    → first_at (λ number. number.padded) (subidentifiers_from offset contents) ≡ None
    → contents ≡ written (values (subidentifiers_from offset contents))
contents_spelled contents offset each ends fresh =
    sym (all_series contents offset) ∙ spelled (series_from offset contents) (all_one contents offset each ends) fresh

-- joined again, the arcs that subidentifiers stand for are those subidentifiers
subs_again : (subs : List ℕ) → subidentifiers_of (arcs_in subs) ≡ subs
subs_again [] = refl
subs_again (first ∷ others) = ap (λ n. n ∷ others) (joined_again first)

-- what a header without fault says
pub record GoodHeader (bytes : List ℕ) : Type 0 where
  pub tagged : get_or bytes 0 0 ≡ tag
  pub some : 1 ≤ length_in bytes
  pub there : taken_in bytes ≤ length bytes

pub good_header : (bytes : List ℕ) → bad_header bytes ≡ None → GoodHeader bytes
unfolding bad_header
good_header bytes e = record { tagged = grind (arith, nat_tests); some = grind (arith, nat_tests); there = grind (arith, nat_tests) }

-- the header, the contents and the rest make up the bytes
parts_of : (bytes : List ℕ) → GoodHeader bytes
    → bytes ≡ (tag ∷ (length (contents_in bytes) ∷ [])) ++ (contents_in bytes ++ drop (taken_in bytes) bytes)
parts_of [] good = absurd (omega (arith, good.there))
parts_of (first ∷ []) good = absurd (omega (arith, good.there))
parts_of (first ∷ (second ∷ rest)) good =
    let tagged = good.tagged in
    let there = good.there in
    grind (arith, common_steps)

bytes_contents : (bytes : List ℕ) → Bytes bytes → Bytes (contents_in bytes)
bytes_contents bytes each i = ⊎_elim inside past (cases_lt i (length_in bytes))
  where
    inside : i < length_in bytes → get_or (contents_in bytes) i 0 < 256
    inside h =
        omega (arith, get_or-take (length_in bytes) (drop header_length bytes) i 0 h, get_or-drop header_length bytes i 0, each (header_length + i))

    past : length_in bytes ≤ i → get_or (contents_in bytes) i 0 < 256
    past h =
        omega (arith, get_or_past (contents_in bytes) i 0 (omega (arith, length-take (length_in bytes) (drop header_length bytes))))

pub bytes_read : (bytes arcs : List ℕ) → Bytes bytes → read_der bytes ≡ Ok arcs → Encodes bytes arcs (drop (taken_in bytes) bytes)
unfolding read_der read_subidentifiers
bytes_read bytes arcs each e =
    let contents = contents_in bytes in
    let numbers = subidentifiers_from header_length contents in
    let header = asked (bad_header bytes) _ arcs e in
    let finished = asked (unfinished contents) _ arcs header.1 in
    let fresh = none_mapped (fault_at Padded) (first_at (λ number. number.padded) numbers) (asked (padded_subidentifiers numbers) _ arcs finished.1).0 in
    let ends = yes_cond (is_last (get_or contents (length contents - 1) 0)) _ finished.0 in
    let found = accepted (arc_numbers numbers) arcs (sym (read_arcs numbers fresh) ∙ finished.1) in
    let spelt = contents_spelled contents header_length (bytes_contents bytes each) ends fresh in
    let same : contents ≡ contents_of arcs =
    spelt ∙ ap written (sym (subs_again (values numbers)))
    ∙ ap (λ l. written (subidentifiers_of l)) (sym (values_arcs numbers) ∙ found.read)
    ∙ sym (contents_written arcs) in
    (found.rule, parts_of bytes (good_header bytes header.0) ∙ (λ k. (tag ∷ (length (same k) ∷ [])) ++ (same k ++ drop (taken_in bytes) bytes)) ∙ ap (λ l. l ++ drop (taken_in bytes) bytes) (sym (bytes_are arcs)))
