-- What the code's requests mean.
use Rattle.std.specs.Prelude.{Result}
use Rattle.std.specs.Result.{result_map_both}
use Rattle.oid.specs.Meaning.{arcs_of}
use Rattle.book.specs.Calls.{Call, grant, claim, offer, accept, decline, retire, roll}
use Rattle.request.specs.Reading.{Reading}
use Rattle.request.specs.declared.refusal.Fault.{Fault}
use Rattle.request.specs.declared.request.Request.{Request}
use Rattle.request.specs.declared.request.Request.TheVariants.{Grant, Claim, Offer, Accept, Decline, Retire, Roll}
use Rattle.request.specs.declared.request.Reading as code

-- the call that a request makes
abbrev pub call_of_request : Request → Call
call_of_request (Grant holder authority) = grant holder (arcs_of authority)
call_of_request (Claim holder authority arc) = claim holder (arcs_of authority) arc
call_of_request (Offer holder authority quota taker) = offer holder (arcs_of authority) quota taker
call_of_request (Accept taker entry) = accept taker (arcs_of entry)
call_of_request (Decline taker entry) = decline taker (arcs_of entry)
call_of_request (Retire holder entry) = retire holder (arcs_of entry)
call_of_request (Roll holder authority from) = roll holder (arcs_of authority) from

-- what the code's `Reading` means, and what a reader answers
abbrev pub reading_of : code.Reading → Reading
reading_of reading = record { call = call_of_request reading.request; offset = reading.offset }

abbrev pub read_as : Result code.Reading Fault → Result Reading Fault
read_as answer = result_map_both reading_of (λ fault. fault) answer
