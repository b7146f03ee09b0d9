-- Refusals of calls and of foundings in words, as programs print them.
use Rattle.std.specs.Prelude.{ℕ, List, ◌++◌, codes, decimal}
use Rattle.oid.specs.Tree.{most_arcs}
use Rattle.book.specs.Ranges.{most_quota, first_holder, last_holder}
use Rattle.book.specs.declared.founding.FoundingRefusal.{FoundingRefusal}
use Rattle.book.specs.declared.founding.FoundingRefusal.TheVariants.{QuotaTooLarge, NoHolder}
use Rattle.book.specs.declared.refusal.Refusal.{Refusal}
use Rattle.book.specs.declared.refusal.Refusal.TheVariants.{NotInBook, WrongKind, NotHolder, TooDeep, TooLittleLeft, NoArc, ArcTaken, BookFull, NotInHand}

-- what is wrong
abbrev pub words_of : Refusal → List ℕ
words_of NotInBook = codes "the identifier does not stand in the book"
words_of WrongKind = codes "the entry is not of the kind that the call is for"
words_of NotHolder = codes "the caller is not the holder who may do this"
words_of TooDeep = codes "the new identifier would have more than " ++ (decimal most_arcs ++ codes " arcs")
words_of TooLittleLeft = codes "the authority has too little left"
words_of NoArc = codes "the rule has no free arc for it, or does not have the arc that is claimed"
words_of ArcTaken = codes "the authority has a child with the arc that is claimed"
words_of BookFull = codes "the book has as many entries as it can have"
words_of NotInHand = codes "the Grant is another register's, or its entry is not in hand"

abbrev pub founding_words : FoundingRefusal → List ℕ
founding_words QuotaTooLarge = codes "the quota is above " ++ decimal most_quota
founding_words NoHolder = codes "the holder is not from " ++ (decimal first_holder ++ (codes " to " ++ decimal last_holder))
