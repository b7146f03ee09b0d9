use Rattle.book.specs.Calls.{decline_grant}
use Rattle.book.specs.declared.event.Event.TheVariants.{DeclineGrant}
use Rattle.book.proofs.OwnGrants.{own_grants}
use Rattle.register.specs.Granted.{grant_of}
use Rattle.register.specs.Registers.{book_of, rules_of, serial_of}
use Rattle.register.proofs.GrantCalls.{does_as_named}
use Rattle.register.proofs.register.Register.decline.Goals as goal

pub returns-clause-named : goal.returns-clause-named
returns-clause-named g c t own =
    let rules = rules_of g.P.ArcRule.means g.A.ArcRule.means c.args.self.now in
    does_as_named rules (serial_of c.args.self.now) (book_of c.args.self.now) (grant_of c.args.grant) DeclineGrant (decline_grant t) _ _ c.spend.ensures.spends
    (own_grants rules _ _ t (grant_of c.args.grant) own).1
