use Rattle.std.proofs.Common.{◌≡◌, ◌+◌, ◌*◌, ◌/◌, cond, Bool, true, false, sym, refl, ◌∙◌, ap, length, get_or, [], Some}
use mir.Val.{bool_byte}
use Rattle.std.specs.Char.{is_ascii_hexdigit}
use Rattle.std.specs.List.{position}
use Rattle.input.specs.Hex.{is_stray_pair}
use Rattle.input.proofs.Faults.{unpaired_in_pair, unpaired_last, unpaired_none}
use Rattle.input.proofs.hex.first_unpaired.Goals as goal

-- a digit counts as one
one : (digit : Bool) → bool_byte digit ≡ cond digit 1 0
one true = refl
one false = refl

pub returns-in-Some : goal.returns-in-Some
returns-in-Some c =
    let digits = c.args.digits.now in
    let pairs = c.as_chunks.ensures.front in
    let long = ap length (sym pairs) ∙ c.as_chunks.ensures.front_len in
    let at = ap (position is_stray_pair) (sym pairs) ∙ sym c.first_stray_pair.ensures ∙ c.in-Some.is in
    let high = ap (λ l. is_ascii_hexdigit (get_or (get_or l c.in-Some.place []) 0 0)) (sym pairs) ∙ sym c.is_hex.ensures in
    ap (λ more. Some (2 * c.in-Some.place + more)) (c.from.ensures ∙ one c.is_hex.result) ∙ sym (unpaired_in_pair digits (length digits / 2) refl c.in-Some.place c.is_hex.result long at high)

pub returns-in-None : goal.returns-in-None
returns-in-None c =
    let digits = c.args.digits.now in
    let pairs = c.as_chunks.ensures.front in
    sym (unpaired_last digits (length digits / 2) refl (ap length (sym pairs) ∙ c.as_chunks.ensures.front_len)
    (ap (position is_stray_pair) (sym pairs) ∙ sym c.first_stray_pair.ensures ∙ c.in-None.is) c.if-digits-eq1.true)

pub returns-in-None-2 : goal.returns-in-None-2
returns-in-None-2 c =
    let digits = c.args.digits.now in
    let pairs = c.as_chunks.ensures.front in
    sym (unpaired_none digits (length digits / 2) refl (ap length (sym pairs) ∙ c.as_chunks.ensures.front_len)
    (ap (position is_stray_pair) (sym pairs) ∙ sym c.first_stray_pair.ensures ∙ c.in-None.is) c.if-digits-eq1.false)
