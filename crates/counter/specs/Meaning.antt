-- What the code's counter calls mean.
use Rattle.std.specs.Prelude.{Result}
use Rattle.std.specs.Result.{result_map_both}
use Rattle.oid.specs.Meaning.{arcs_of}
use Rattle.counter.specs.Calls.{Call, collect, accept, decline, terms, left, tells}
use Rattle.counter.specs.declared.call.CounterCall.{CounterCall}
use Rattle.counter.specs.declared.call.CounterCall.TheVariants.{Collect, Accept, Decline, Terms, Left, Tells}
use Rattle.counter.specs.declared.no_call.NoCall.{NoCall}

abbrev pub call_of : CounterCall → Call
call_of (Collect taker entry) = collect taker (arcs_of entry)
call_of (Accept entry) = accept (arcs_of entry)
call_of (Decline entry) = decline (arcs_of entry)
call_of (Terms entry) = terms (arcs_of entry)
call_of (Left entry) = left (arcs_of entry)
call_of Tells = tells

-- what a reader answers
abbrev pub read_as : Result CounterCall NoCall → Result Call NoCall
read_as answer = result_map_both call_of (λ no_call. no_call) answer
