-- What a desk keeps true of the Grants that are out.
use Rattle.register.specs.Registers.{book_of, serial_of}
use Rattle.runs.specs.Hands.{Hands}
use Rattle.runs.specs.Out.{held_in}
use Rattle.runs.specs.declared.desk.Desk.{Desk}

pub hands_at : {P A : Type 0} (desk : Desk P A) → Hands (serial_of desk.register) (book_of desk.register) (held_in desk.held.items)
hands_at desk = record { own = desk.own; each_once = desk.each_once; as_many = desk.as_many }
