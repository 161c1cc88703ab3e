-- What contracts see of the calls that a link of the tests notes.
use Rattle.bac_driver.specs.Calls.{Call}
use Rattle.bac_driver.specs.Calls.Call.{Send, Receive, ReceiveNothing, FailedReceive}
use Rattle.bac_tests.specs.declared.noted_call.NotedCall.{NotedCall}
use Rattle.bac_tests.specs.declared.noted_call.NotedCall.TheVariants as noted

abbrev pub call_view : NotedCall → Call
call_view (noted.Sent to octets) = Send to octets.items
call_view (noted.Received wait from octets) = Receive wait from octets.items
call_view (noted.Nothing wait) = ReceiveNothing wait
call_view noted.Failed = FailedReceive
