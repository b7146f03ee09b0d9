-- Counter calls that could not be read, in words.
use Rattle.std.specs.Prelude.{ℕ, List, ◌++◌, codes, decimal}
use Rattle.oid.specs.Words.{fault_text}
use Rattle.counter.specs.Names.{name_text}
use Rattle.counter.specs.Reading.{most_number}
use Rattle.counter.specs.declared.name.Name.{Name}
use Rattle.counter.specs.declared.name.Name.TheVariants.{Collect, Tells}
use Rattle.counter.specs.declared.no_call.NoCall.{NoCall}
use Rattle.counter.specs.declared.no_call.NoCall.TheVariants.{UnknownName, WrongFields, NotANumber, NotAnIdentifier}

-- how the line of a call goes on behind its name
abbrev pub takes_text : Name → List ℕ
takes_text Collect = codes "takes a number and an identifier, with one space before each"
takes_text Tells = codes "stands alone on its line"
takes_text name = codes "takes an identifier, with one space before it"

-- what was expected, and where
abbrev pub words_of : NoCall → List ℕ
words_of UnknownName = codes "before any space stands none of @collect, @accept, @decline, @terms, @left and @tells"
words_of (WrongFields name) = name_text name ++ (codes " " ++ takes_text name)
words_of (NotANumber offset) = codes "a number from 0 to " ++ (decimal most_number ++ (codes " was expected at offset " ++ decimal offset))
words_of (NotAnIdentifier fault) = codes "an identifier was expected, as 2.999 (" ++ (fault_text fault ++ codes ")")
