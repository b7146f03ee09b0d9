use Rattle.std.proofs.Common.{refl}
use Rattle.std.specs.Fmt.{digits}
use Rattle.oid.specs.Arcs.{arc_limit}
use Rattle.oid.specs.Numbers.{first_at, read_numbers}
use Rattle.oid.specs.Tree.{begins_with}
use Rattle.dotted.specs.Form.{faulty_from}
use Rattle.dotted.specs.Pieces.{pieces_from}
use Rattle.dotted.specs.Prefix.{prefix, prefix_length}
use Rattle.dotted.specs.Reading.{read_dotted}
use Rattle.dotted.specs.Writing.{dotted_text}
use Rattle.der.specs.Base128.{base128}
use Rattle.der.specs.Header.{bad_header}
use Rattle.der.specs.Reading.{read_der, read_subidentifiers}
use Rattle.der.specs.Subidentifiers.{series_from}
use Rattle.der.specs.Writing.{der_bytes, contents_of}
use Rattle.conformance.proofs.laws.examples_agree.Goals as goal

pub returns : goal.returns
unfolding read_dotted prefix_length prefix begins_with faulty_from pieces_from read_numbers first_at arc_limit read_der bad_header read_subidentifiers series_from dotted_text der_bytes contents_of base128 digits
returns c = (refl, refl)
