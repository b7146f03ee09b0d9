use Rattle.std.proofs.Common.{Err, refl, sym, ap, ◌∙◌, subst}
use Rattle.std.proofs.lemmas.Result.{err_from_is_err_and}
use Rattle.oid.specs.Meaning.{arcs_of}
use Rattle.book.specs.Calls.{collect}
use Rattle.book.specs.Grants.{Grant, IsOwn}
use Rattle.book.specs.Rulings.{collected}
use Rattle.book.proofs.GrantRows.{own_grants_stay}
use Rattle.register.specs.Granted.{answer_collected}
use Rattle.register.specs.Kept.{entry_of}
use Rattle.register.specs.Registers.{book_of, rules_of, serial_of}
use Rattle.register.proofs.Asking.{follows_answer}
use Rattle.register.proofs.register.Register.collect.Goals as goal

pub returns-in_err-standing-clause-ruling : goal.returns-in_err-standing-clause-ruling
returns-in_err-standing-clause-ruling g c =
    let is = err_from_is_err_and c.from_residual.result c.from_residual.ensures.1 in
    follows_answer _ _ _ _ _ (ap answer_collected (is.1 ∙ ap Err is.2))
    (c.in_err-standing.ensures.ruling (λ entry. collected entry.holder entry.quota))

pub returns-clause-ruling : goal.returns-clause-ruling
returns-clause-ruling g c = c.in_ok-standing.ensures.ruling (λ entry. collected entry.holder entry.quota)

pub returns-clause-own : goal.returns-clause-own
returns-clause-own g c =
    let rules = rules_of g.P.ArcRule.means g.A.ArcRule.means c.args.self.now in
    let standing = c.in_ok-standing.standing in
    let t = arcs_of c.args.entry.now in
    let serial = serial_of c.turn_offer.new.self in
    let grant : Grant = record { serial = serial; row = standing.number; holder = standing.row.holder; quota = standing.row.quota } in
    let stands = c.in_ok-standing.ensures.stands in
    let own : IsOwn serial (book_of c.args.self.now) t grant =
    record { entry = entry_of standing.row; first = stands.first; stands = stands.row; holder = refl; quota = refl; its_serial = refl } in
    subst (λ book. IsOwn serial book t grant) (sym (c.in_ok-standing.ensures.ruling (λ entry. collected entry.holder entry.quota)).leaves)
    (own_grants_stay rules serial (book_of c.args.self.now) t grant (collect c.args.taker t) own)
