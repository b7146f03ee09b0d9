-- The reading of an identifier from the front of some bytes: its questions, in order.
use Rattle.std.specs.Prelude.{ℕ, ◌+◌, ◌-◌, cond, List, [], ◌∷◌, length, Some, None, Ok, Option, Result, nat_lt, slice_index}
use Rattle.std.specs.Option.{option_map}
use Rattle.oid.specs.Arcs.{arc_limit}
use Rattle.oid.specs.Numbers.{Number, values, too_large, first_at, wrong_count}
use Rattle.oid.specs.Refusals.{fault_at, ask, told}
use Rattle.oid.specs.Tree.{last_root}
use Rattle.oid.specs.declared.refusal.Fault.{Fault}
use Rattle.oid.specs.declared.refusal.Refusal.TheVariants.{ArcTooLarge, Unfinished, Padded}
use Rattle.der.specs.Base128.{is_last}
use Rattle.der.specs.Header.{header_length, taken_in, contents_in, bad_header}
use Rattle.der.specs.Subidentifiers.{subidentifiers_from, joined_arcs, arcs_in}

-- 7. Is the last byte of the contents below 80? A no is told at that byte.
abbrev pub unfinished : List ℕ → Option Fault
unfinished contents =
    cond (is_last (slice_index contents (length contents - 1))) None (Some (fault_at Unfinished (header_length + (length contents - 1))))

-- 8. Does no subidentifier begin with 80? A no is told at the first that does.
abbrev pub padded_subidentifiers : List Number → Option Fault
padded_subidentifiers subidentifiers = option_map (fault_at Padded) (first_at (λ number. number.padded) subidentifiers)

-- the offset of the first subidentifier that stands for an arc above the limit; the first of all, which stands for
-- the root too, may reach the limit plus 80
abbrev pub first_large : List Number → Option ℕ
first_large [] = None
first_large (first ∷ others) = cond (nat_lt (joined_arcs last_root arc_limit) first.value) (Some first.offset) (first_at too_large others)

-- 3. Is no arc above the limit? A no is told at its subidentifier.
abbrev pub large_subidentifiers : List Number → Option Fault
large_subidentifiers subidentifiers = option_map (fault_at ArcTooLarge) (first_large subidentifiers)

-- Questions 8, 3 and 4, put to the subidentifiers; there is one arc more than there are of these.
unfoldable pub read_subidentifiers : List Number → Result (List ℕ) Fault
read_subidentifiers subidentifiers =
    ask (padded_subidentifiers subidentifiers) (ask (large_subidentifiers subidentifiers) (ask (wrong_count (1 + length subidentifiers)) (Ok (arcs_in (values subidentifiers)))))

-- The arcs of the identifier at the front, or the first no.
unfoldable pub read_der : List ℕ → Result (List ℕ) Fault
read_der bytes =
    ask (bad_header bytes) (ask (unfinished (contents_in bytes)) (read_subidentifiers (subidentifiers_from header_length (contents_in bytes))))

-- What the reader tells: the bytes taken, or the fault.
abbrev pub taken : List ℕ → Result ℕ Fault
taken bytes = told (taken_in bytes) (read_der bytes)
