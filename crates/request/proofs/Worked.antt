-- The worked example, by computing.
use Rattle.std.proofs.Common.{refl}
use Rattle.std.specs.Fmt.{digits}
use Rattle.oid.specs.Arcs.{arc_limit}
use Rattle.oid.specs.Numbers.{first_at, read_numbers}
use Rattle.oid.specs.Tree.{begins_with}
use Rattle.dotted.specs.Form.{faulty_from}
use Rattle.dotted.specs.Pieces.{pieces_from}
use Rattle.dotted.specs.Prefix.{prefix, prefix_length}
use Rattle.dotted.specs.Reading.{read_dotted}
use Rattle.dotted.specs.Writing.{dotted_text}
use Rattle.request.specs.Fields.{parts_from, in_form}
use Rattle.request.specs.Reading.{read_line}
use Rattle.request.specs.Answers.{roll_lines}
use Rattle.request.specs.Example.{WorkedLines}

pub worked_lines : WorkedLines
unfolding digits read_dotted prefix_length prefix begins_with faulty_from pieces_from read_numbers first_at arc_limit dotted_text parts_from in_form read_line roll_lines
worked_lines = record {
  calls = refl;
  written = refl;
  roll_of_one = refl;
  roll_of_two = refl;
  no_bytes = refl;
  space_first = refl;
  one_field = refl;
  two_spaces = refl;
  space_last = refl;
  no_holder = refl;
  number_before_identifier = refl;
  zero_in_front = refl;
  behind_prefix = refl;
  no_is_written = refl;
}
