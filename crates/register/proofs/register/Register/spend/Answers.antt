use Rattle.register.specs.Granted.{grant_of}
use Rattle.register.specs.Registers.{book_of, serial_of}
use Rattle.register.proofs.GrantCalls.{passes}
use Rattle.register.proofs.register.Register.spend.Goals as goal

pub returns-clause-spends : goal.returns-clause-spends
returns-clause-spends g c =
    passes (serial_of c.args.self.now) (book_of c.args.self.now) (grant_of c.args.grant) c.args.event c.turn.new.self.rows.items c.index.result.now
    c.if-grant-self.false c.if-not-turn.ensures.answer c.turn.ensures.book c.index.ensures
