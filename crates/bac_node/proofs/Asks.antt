-- An ask of the client's end is one of the node.
use Rattle.std.proofs.Common.{◌≡◌, ◌≢◌, ℕ, refl, ap, ◌∙◌}
use Rattle.bac_apdu.specs.Apdu.{Limits}
use Rattle.bac_npdu.specs.Peers.{PeerView}
use Rattle.bac_service.specs.Requests.{SpellsRequest}
use Rattle.bac_service.specs.Values.{Request, choice_of}
use Rattle.bac_protocol.specs.Service.{Octets}
use Rattle.bac_transaction.specs.Ends.{AskOutcome, ClientEnd, requester_ask}
use Rattle.bac_requester.specs.Reactions as requester
use Rattle.bac_requester.specs.declared.asking.Asked.{Asked}
use Rattle.bac_requester.specs.declared.ask_fault.AskFault.{AskFault}
use Rattle.bac_requester.specs.declared.ask_fault.AskFault.TheVariants as fault
use Rattle.bac_world.specs.Node.{Node}
use Rattle.bac_node.specs.Calls.{IsAsked, Refuses, WouldAsk}

module _ (now : ℕ) (old : Node) (peer : PeerView) (limits : Limits) (q : Request) (octets : Octets)
    (foreign : peer.link ≢ old.link) (spelled : SpellsRequest (choice_of q) q octets) where
  abbrev outcome : AskOutcome
  outcome = requester_ask old.settings now peer limits (choice_of q) octets old.clients

  pub accepted_so : (e : ClientEnd) (x : Asked) → requester.Accepts outcome e x → IsAsked now peer limits q old (record old { latest = now; clients = e }) x
  accepted_so e x h = go outcome refl h
    where
      go : (o : AskOutcome) → outcome ≡ o → requester.Accepts o e x → IsAsked now peer limits q old (record old { latest = now; clients = e }) x
      go (AskOutcome.Refused why) is h = absurd h
      go (AskOutcome.Asked a) is h = record {
        accepted = a;
        asks = record {
          octets = octets;
          spelled = spelled;
          foreign = foreign;
          accepted = is;
          node = ap (λ (z : ClientEnd). record old { latest = now; clients = z }) h.end;
          sent = h.sends;
        };
        ticket = h.ticket;
        invoke_id = h.invoke_id;
      }

  pub refused_so : (e : AskFault) → requester.Refuses e outcome → Refuses e now peer limits q old
  refused_so e h = go e outcome refl h
    where
      would : (o : AskOutcome) → outcome ≡ o → requester.MayBegin o → WouldAsk now peer limits q old
      would (AskOutcome.Refused why) is h = absurd h
      would (AskOutcome.Asked a) is h = record { octets = octets; spelled = spelled; foreign = foreign; accepted = a; asks = is }

      go : (e : AskFault) (o : AskOutcome) → outcome ≡ o → requester.Refuses e o → Refuses e now peer limits q old
      go fault.ClockBack o is h = absurd h
      go fault.SelfPeer o is h = absurd h
      go fault.TooLong o is h = record { octets = octets; spelled = spelled; foreign = foreign; refused = is ∙ h }
      go fault.NeedsSegments o is h = record { octets = octets; spelled = spelled; foreign = foreign; refused = is ∙ h }
      go fault.NoInvokeId o is h = record { octets = octets; spelled = spelled; foreign = foreign; refused = is ∙ h }
      go fault.NoSlot o is h = record { octets = octets; spelled = spelled; foreign = foreign; refused = is ∙ h }
      go fault.NoMemory o is h = would o is h
