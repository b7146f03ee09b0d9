-- What comes back of a call of Grants, and what is told of it.
use Rattle.std.proofs.Common.{◌≡◌, ℕ, List, [], Bool, false, true, refl, sym, ap, ◌∙◌, eqb, cond}
use Rattle.book.specs.Refusals.{number_of}
use Rattle.book.specs.Rulings.{Answer, refused, named, listed, collected}
use Rattle.book.specs.Runs.{handed_back}
use Rattle.book.specs.declared.refusal.Refusal.{Refusal}
use Rattle.book.specs.declared.refusal.Refusal.TheVariants.{NotInBook, WrongKind, NotHolder, TooDeep, TooLittleLeft, NoArc, ArcTaken, BookFull, NotInHand}
use Rattle.runs.specs.Calls.{back_of, is_of_line}
use Rattle.runs.specs.declared.call.Back.{Back}
use Rattle.runs.specs.declared.call.Back.TheVariants.{TooShort, Written, Handed, Done, Refused}
use Rattle.desk.specs.Answers.{told_of}
use Rattle.desk.specs.Came.{told_by}
use Rattle.desk.specs.declared.told.Told.TheVariants.{Granted, No}

-- the refusal with a number
abbrev refusal_with : ℕ → Refusal
refusal_with number =
    cond (eqb number 14) NotInBook (cond (eqb number 15) WrongKind (cond (eqb number 16) NotHolder (cond (eqb number 17) TooDeep
    (cond (eqb number 18) TooLittleLeft (cond (eqb number 19) NoArc (cond (eqb number 20) ArcTaken (cond (eqb number 21) BookFull NotInHand)))))))

with_number : (refusal : Refusal) → refusal_with (number_of refusal) ≡ refusal
with_number NotInBook = refl
with_number WrongKind = refl
with_number NotHolder = refl
with_number TooDeep = refl
with_number TooLittleLeft = refl
with_number NoArc = refl
with_number ArcTaken = refl
with_number BookFull = refl
with_number NotInHand = refl

-- refusals with the same number are the same
same_number : (one other : Refusal) → number_of one ≡ number_of other → one ≡ other
same_number one other is = sym (with_number one) ∙ ap refusal_with is ∙ with_number other

-- it is not what comes back of a line
pub of_no_line : (back : Back) (page : List ℕ) (answer : Answer) → back_of back page ≡ handed_back answer → is_of_line back ≡ false
of_no_line TooShort page (refused refusal) is = absurd (cc)
of_no_line TooShort page (named identifier) is = absurd (cc)
of_no_line TooShort page (listed identifier children) is = absurd (cc)
of_no_line TooShort page (collected holder quota) is = absurd (cc)
of_no_line (Written length) page (refused refusal) is = absurd (cc)
of_no_line (Written length) page (named identifier) is = absurd (cc)
of_no_line (Written length) page (listed identifier children) is = absurd (cc)
of_no_line (Written length) page (collected holder quota) is = absurd (cc)
of_no_line (Handed terms) page answer is = refl
of_no_line Done page answer is = refl
of_no_line (Refused refusal) page answer is = refl

-- and what is told of it is what the answer is told as
pub told_back : (back : Back) (page : List ℕ) (answer : Answer) → back_of back page ≡ handed_back answer → told_by back ≡ told_of answer
told_back TooShort page answer is = let z = of_no_line TooShort page answer is in absurd (cc)
told_back (Written length) page answer is = let z = of_no_line (Written length) page answer is in absurd (cc)
told_back (Handed terms) page (collected holder quota) is =
    let same_holder : terms.holder ≡ holder = cc in
    let same_quota : terms.quota ≡ quota = cc in
    λ i. Granted (record { holder = same_holder i; quota = same_quota i })
told_back (Handed terms) page (refused refusal) is = absurd (cc)
told_back (Handed terms) page (named identifier) is = absurd (cc)
told_back (Handed terms) page (listed identifier children) is = absurd (cc)
told_back Done page (collected holder quota) is = absurd (cc)
told_back Done page (refused refusal) is = absurd (cc)
told_back Done page (named identifier) is = refl
told_back Done page (listed identifier children) is = refl
told_back (Refused refusal) page (collected holder quota) is = absurd (cc)
told_back (Refused refusal) page (named identifier) is = absurd (cc)
told_back (Refused refusal) page (listed identifier children) is = absurd (cc)
told_back (Refused refusal) page (refused other) is = let numbers : number_of refusal ≡ number_of other = cc in ap No (same_number refusal other numbers)
