-- A server's end that lets invoke IDs be used again, computed. Each type here is an equation that a law proves.
use Rattle.std.specs.Prelude.{◌≡◌, ℕ, List, [], ◌∷◌, Some, None, true, false}
use Rattle.bac_apdu.specs.Apdu.{Apdu}
use Rattle.bac_apdu.specs.Apdu.Apdu.{ConfirmedRequest, SimpleAck, Abort}
use Rattle.bac_protocol.specs.Service.{Octets, Reply}
use Rattle.bac_protocol.specs.Server as server
use Rattle.bac_segment.specs.Window.{outgoing}
use Rattle.bac_transaction.specs.Ends.{Act, ServerEnd, ServerSlot, ServerTurn, server_restarted}
use Rattle.bac_transaction.specs.Examples.{LIMITS, REQUEST, SERVICE, SERVICE_DATA, SETTINGS, key, peer, servers}
use Rattle.bac_transaction.specs.Reuse.{responder_reusing}
use Rattle.bac_transaction.specs.Sends.{Send}

-- an APDU comes from peer n to an end with one slot
abbrev pub hears : (now n : ℕ) → Apdu → ServerEnd → ServerTurn
hears now n a e = responder_reusing false SETTINGS now SERVICE (peer n) a e

-- a write, or a read, with invoke ID 7
abbrev pub write : Octets → Apdu
write octets = ConfirmedRequest LIMITS 7 None 15 octets

abbrev pub READ : Apdu
READ = ConfirmedRequest LIMITS 7 None 12 SERVICE_DATA

abbrev pub OTHER_DATA : Octets
OTHER_DATA = 12 ∷ 56 ∷ []

abbrev pub act_of : (n choice : ℕ) → Octets → Act
act_of n choice octets =
    record { key = key n 7; effect = record { request = record { choice = choice; service = octets }; reply = Reply.Simple } }

abbrev pub answered : (n choice : ℕ) → List Send
answered n choice = record { peer = peer n; apdu = SimpleAck 7 choice } ∷ []

abbrev pub turned_away : ℕ → List Send
turned_away n = record { peer = peer n; apdu = Abort true 7 0 } ∷ []

-- an entry of peer 2 that began at that moment, with that write
abbrev pub entry_at : (now : ℕ) → Octets → ServerSlot
entry_at now octets =
    record {
      key = key 2 7;
      begin = now;
      value = record { begin = now; choice = 15; limits = LIMITS; request = Some octets; first = None; state = server.State.Done (SimpleAck 7 15) };
    }

abbrev pub with_slots : List ServerSlot → ServerEnd
with_slots slots = record { slots = slots; capacity = 1; serves_from = 0 }

-- The client of the kept write (at 0) uses its invoke ID again.
pub record UsedAgain : Type 0 where
  -- an equal write gets the kept reply
  pub equal : hears 10 2 REQUEST servers ≡ record { end = servers; sends = answered 2 15; act = None }
  -- another one is performed, and is the kept one then
  pub another : hears 10 2 (write OTHER_DATA) servers
      ≡ record { end = with_slots (entry_at 10 OTHER_DATA ∷ []); sends = answered 2 15; act = Some (act_of 2 15 OTHER_DATA) }
  -- so the first one is performed once more
  pub back : hears 20 2 REQUEST (with_slots (entry_at 10 OTHER_DATA ∷ []))
      ≡ record { end = with_slots (entry_at 20 SERVICE_DATA ∷ []); sends = answered 2 15; act = Some (act_of 2 15 SERVICE_DATA) }
  -- a read is performed, and no entry is left
  pub read : hears 10 2 READ servers ≡ record { end = with_slots []; sends = answered 2 12; act = Some (act_of 2 12 SERVICE_DATA) }

-- The table is full, or the end restarted at 0.
pub record WithoutRoom : Type 0 where
  -- another client's read is performed, and its write turned away
  pub read : hears 10 3 READ servers ≡ record { end = servers; sends = answered 3 12; act = Some (act_of 3 12 SERVICE_DATA) }
  pub write : hears 10 3 REQUEST servers ≡ record { end = servers; sends = turned_away 3; act = None }
  -- so it is while the end waits after a restart
  pub read_early : hears 65000 3 READ (server_restarted 0 servers)
      ≡ record { end = server_restarted 0 servers; sends = answered 3 12; act = Some (act_of 3 12 SERVICE_DATA) }
  pub write_early : hears 65000 3 REQUEST (server_restarted 0 servers) ≡ record { end = server_restarted 0 servers; sends = turned_away 3; act = None }

-- an entry of a read whose reply goes in two segments
abbrev pub transfer_entry : server.Transfer → ServerSlot
transfer_entry transfer =
    record {
      key = key 2 7;
      begin = 0;
      value = record {
        begin = 0;
        choice = 12;
        limits = LIMITS;
        request = Some SERVICE_DATA;
        first = None;
        state = server.State.SegmentedResponse (outgoing ((1 ∷ []) ∷ (2 ∷ []) ∷ [])) transfer 0;
      };
    }

-- A read whose reply goes in segments keeps its entry until the last SegmentACK.
pub record InSegments : Type 0 where
  pub under_way : hears 10 2 (write OTHER_DATA) (with_slots (transfer_entry server.Transfer.Running ∷ []))
      ≡ record { end = with_slots (transfer_entry server.Transfer.Running ∷ []); sends = turned_away 2; act = None }
  pub repeated : hears 10 2 READ (with_slots (transfer_entry server.Transfer.Running ∷ []))
      ≡ record { end = with_slots (transfer_entry server.Transfer.Running ∷ []); sends = []; act = None }
  pub over : hears 10 2 READ (with_slots (transfer_entry server.Transfer.Finished ∷ []))
      ≡ record { end = with_slots []; sends = answered 2 12; act = Some (act_of 2 12 SERVICE_DATA) }
