-- What is wrong with a command line, in words.
use Rattle.std.specs.Prelude.{ℕ, List, ◌++◌, codes, decimal}
use Rattle.oid.specs.Words.{fault_text}
use Rattle.options.specs.Names.{name_text}
use Rattle.options.specs.declared.bad_option.BadOption.{BadOption}
use Rattle.options.specs.declared.bad_option.BadOption.TheVariants.{Unknown, NoValue, Twice, NotAnIdentifier, NotANumber, NotARange, NotAList}

-- which argument is wrong, and what was expected
abbrev pub words_of : BadOption → List ℕ
words_of (Unknown index) =
    codes "argument " ++ (decimal index ++ codes ": one of --root, --holder, --quota, --panels, --authorities and --page was expected")
words_of (NoValue option) = name_text option ++ codes ": a value was expected after it"
words_of (Twice option) = name_text option ++ codes ": it was given twice"
words_of (NotAnIdentifier fault) = codes "--root: an identifier was expected, as 2.999 (" ++ (fault_text fault ++ codes ")")
words_of (NotANumber option most) = name_text option ++ (codes ": a number from 0 to " ++ (decimal most ++ codes " was expected"))
words_of NotARange = codes "--panels: two arcs with - between them were expected, as 100-102"
words_of NotAList = codes "--authorities: arcs with a comma between neighbours were expected, as 1,3,5"
