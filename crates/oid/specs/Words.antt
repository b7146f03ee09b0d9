-- Refusals and faults in words, as programs print them.
use Rattle.std.specs.Prelude.{ℕ, List, ◌++◌, codes, decimal}
use Rattle.oid.specs.Arcs.{arc_limit}
use Rattle.oid.specs.Refusals.{number_of}
use Rattle.oid.specs.Tree.{fewest_arcs, most_arcs, last_second}
use Rattle.oid.specs.declared.refusal.Refusal.{Refusal}
use Rattle.oid.specs.declared.refusal.Refusal.TheVariants.{NotDotted, LeadingZero, ArcTooLarge, ArcCount, FirstArcs, Header, Unfinished, Padded, PageTooShort}
use Rattle.oid.specs.declared.refusal.Fault.{Fault}

-- what is wrong; 'here' is a fault's offset
abbrev pub words_of : Refusal → List ℕ
words_of NotDotted = codes "here the text is not decimal numbers with one dot between neighbours"
words_of LeadingZero = codes "the number here has a needless 0 in front"
words_of ArcTooLarge = codes "the number here is above " ++ (decimal arc_limit ++ codes ", the largest that an identifier may have")
words_of ArcCount = codes "an identifier has " ++ (decimal fewest_arcs ++ (codes " to " ++ (decimal most_arcs ++ codes " numbers")))
words_of FirstArcs = codes "the first number is 0, 1 or 2, and after 0 or 1 the second is at most " ++ decimal last_second
words_of Header = codes "here the content does not begin as an identifier does: 06, a length from 01 to 7F, and as many bytes"
words_of Unfinished = codes "the last byte of the contents is 80 or more, so a number is not finished"
words_of Padded = codes "the number here begins with a needless 80"
words_of PageTooShort = codes "there is no room to write the identifier"

-- the number of a fault's refusal, its offset, and the words
abbrev pub fault_text : Fault → List ℕ
fault_text fault = decimal (number_of fault.refusal) ++ (codes " " ++ (decimal fault.offset ++ (codes " " ++ words_of fault.refusal)))
