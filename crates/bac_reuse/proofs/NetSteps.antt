-- Steps of a net of bac_protocol that keep what holds of it: those of its machines, and others that no move makes, in which a server answers with Aborts in
-- time, or a client gives up in time.
use Rattle.std.proofs.Common.{◌≡◌, ℕ, ◌+◌, ◌-◌, ◌<◌, ◌≤◌, ◌⊎◌, Bool, true, false, List, [], ◌∷◌, length, Option, Some, None, slice_get}
use Rattle.std.proofs.Common.{if◌then◌else◌, sym, subst, inl, inr, ◌∙◌, arith}
use Rattle.std.proofs.lemmas.Bool.Decides.{nat_tests}
use Rattle.bac_apdu.specs.Apdu.{Apdu}
use Rattle.bac_apdu.specs.Apdu.Apdu.{ConfirmedRequest, UnconfirmedRequest, SimpleAck, ComplexAck, SegmentAck, Error, Reject, Abort}
use Rattle.bac_protocol.specs.declared.times.TheConstants.{KEEP}
use Rattle.bac_protocol.specs.Pace.{Since, most}
use Rattle.bac_protocol.specs.Service.{OTHER}
use Rattle.bac_protocol.specs.Service.Ending.{Aborted}
use Rattle.bac_protocol.specs.Wire.{Each, is_from_client}
use Rattle.bac_protocol.specs.Client as client
use Rattle.bac_protocol.specs.Client.{Ask, ClientTransaction, is_idle}
use Rattle.bac_protocol.specs.Client.Reaction.{Ends}
use Rattle.bac_protocol.specs.Server as server
use Rattle.bac_protocol.specs.Server.{ServerTransaction, is_live}
use Rattle.bac_protocol.specs.Log.{Fact}
use Rattle.bac_protocol.specs.Log.Fact.{Ended}
use Rattle.bac_protocol.specs.Own.{IsOwnEntry}
use Rattle.bac_protocol.specs.Transaction.{Copy, Key, Rules, client_context}
use Rattle.bac_protocol.specs.World.{Net, client_acts, client_now}
use Rattle.bac_protocol.specs.World.{begun, server_acts, server_now}
use Rattle.bac_protocol.specs.Claims.{EachCopy, IsBounded, Moments, client_until, moments_of, server_until}
use Rattle.bac_protocol.proofs.Alone.{client_does, one, sent, server_does}
use Rattle.bac_protocol.proofs.Calm.{Calm, IsBegunBy, IsCalm, calm_client, calm_server}
use Rattle.bac_protocol.proofs.ClientKeeps.{client_gets_kept}
use Rattle.bac_protocol.proofs.Facts.{copies_go, down_same, each_sent, grows_same, up_same}
use Rattle.bac_protocol.proofs.Nets.{NetSound, net_client, net_server}
use Rattle.bac_protocol.proofs.Nets.{sound_at}
use Rattle.bac_protocol.proofs.Paces.{since_now, within_most}
use Rattle.bac_protocol.proofs.Served.{BeginIs}
use Rattle.bac_protocol.proofs.Sound.{Down, FirstFits, IsBegunFor, IsPastFor, IsSound, Says, ServerFits, Sound, Up}
use Rattle.bac_protocol.proofs.Standing.{Stands, reacts_keep, serves_keep}

-- Times.

-- it is time for a server to send for the newest ask
pub record IsInTime (n : Net) (key : Key) : Type 0 where
  pub late : n.now ≤ server_until (moments_of n key)
  pub lost : n.made key < n.restarted key.client → n.now < n.restarted key.client + n.pace.life + most n.pace KEEP

-- it is time to begin an entry for it
pub record IsSoon (n : Net) (key : Key) : Type 0 where
  pub soon : n.now ≤ client_until (moments_of n key) + n.pace.life
  pub lost : n.made key < n.restarted key.client → n.now < n.restarted key.client + n.pace.life

pub soon_in_time : (n : Net) (key : Key) → IsSoon n key → IsInTime n key
soon_in_time n key s = record { late = let soon = s.soon in omega arith; lost = λ gone. let lost = s.lost gone in omega arith }

says_client : (W : ℕ) (times : Moments) (number : ℕ) (ask : Ask) (log : List Fact) (up : Up) (down : Down) (m k : ℕ) (a : Apdu) → is_from_client a ≡ true
    → Says W times number ask log up down m k a → m ≤ client_until times
says_client W times number ask log up down m k (ConfirmedRequest limits id None choice octets) from s = s.0
says_client W times number ask log up down m k (ConfirmedRequest limits id (Some g) choice octets) from s = s.0
says_client W times number ask log up down m k (UnconfirmedRequest choice octets) from s = absurd s
says_client W times number ask log up down m k (SimpleAck id choice) from s = absurd cc
says_client W times number ask log up down m k (ComplexAck id g choice octets) from s = absurd cc
says_client W times number ask log up down m k (SegmentAck true id ack) from s = absurd cc
says_client W times number ask log up down m k (SegmentAck false id ack) from s = s.0
says_client W times number ask log up down m k (Error id choice class code) from s = absurd cc
says_client W times number ask log up down m k (Reject id reason) from s = absurd cc
says_client W times number ask log up down m k (Abort true id reason) from s = absurd cc
says_client W times number ask log up down m k (Abort false id reason) from s = s

-- copies that are sent now are no later than now
sent_by_now : (now : ℕ) (sends : List Apdu) (copies : List Copy) → EachCopy (λ k c. c.moment ≤ now) copies
    → EachCopy (λ k c. c.moment ≤ now) (sent now sends copies)
sent_by_now now sends copies old = each_sent (λ k c. c.moment ≤ now) now sends copies (all sends) old
  where
    all : (sends : List Apdu) → Each (λ a. (k : ℕ) → now ≤ now) sends
    all [] = tt
    all (a ∷ more) = (λ k. omega arith, all more)

-- an Abort for each of these
abbrev pub aborts : (id : ℕ) → List Apdu → List Apdu
aborts id [] = []
aborts id (a ∷ more) = Abort true id OTHER ∷ aborts id more

each_abort : (P : Apdu → Type 0) (id : ℕ) → P (Abort true id OTHER) → (sends : List Apdu) → Each P (aborts id sends)
each_abort P id h [] = tt
each_abort P id h (a ∷ more) = (h, each_abort P id h more)

module _ (W : ℕ) (x : Rules) (bound : IsBounded W x) where
  module _ (n : Net) (s : Stands W n) (key : Key) (t : ClientTransaction) (at : n.tickets key ≡ Some t) where
    -- Times.

    calm_at : IsCalm (n.asks_from key.client) (moments_of n key) key (Some t) (n.entries key) (one n key).copies
    calm_at = subst (λ (o : Option ClientTransaction). IsCalm (n.asks_from key.client) (moments_of n key) key o (n.entries key) (one n key).copies)
        at (s.calm key)

    -- an entry that is live was begun for the ask
    begun_at : (e : ServerTransaction) → n.entries key ≡ Some e → is_live (server_now n key) e ≡ true
        → (up : Up) × (down : Down) × IsBegunFor W (moments_of n key) (n.numbers key) t.ask e up down n.log
    begun_at e is live =
        let f = sound_at W n key (Some t) at s.net in
        (f.0, f.1, go (subst (λ (o : Option ServerTransaction). ServerFits W (moments_of n key) (n.numbers key) t.ask o f.0 f.1 n.log) is (f.2).server))
      where
        go : {up : Up} {down : Down} → IsPastFor (moments_of n key) (n.numbers key) t.ask e up down n.log
            ⊎ IsBegunFor W (moments_of n key) (n.numbers key) t.ask e up down n.log
            → IsBegunFor W (moments_of n key) (n.numbers key) t.ask e up down n.log
        go (inl past) = let dead = past.dead in absurd (grind (arith, nat_tests))
        go (inr begun) = begun

    -- so it keeps no piece, or the first one of the ask's request
    pub entry_first : (e : ServerTransaction) → n.entries key ≡ Some e → is_live (server_now n key) e ≡ true → FirstFits t.ask e.first
    entry_first e is live = (begun_at e is live).2.first

    pub entry_in_time : (e : ServerTransaction) → n.entries key ≡ Some e → is_live (server_now n key) e ≡ true → IsInTime n key
    entry_in_time e is live = record { late = late; lost = lost }
      where
        le : server_now n key ≤ e.begin + KEEP
        le = grind (arith, nat_tests)

        late : n.now ≤ server_until (moments_of n key)
        late =
            let f = sound_at W n key (Some t) at s.net in
            let begun = (begun_at e is live).2.begun in
            let before = begun.before in
            let within = within_most n.pace (f.2).clock.timely KEEP begun.began e.begin n.now (n.server_clocks key.server) (f.2).clock.server
            begun.since le in
            omega arith

        lost : n.made key < n.restarted key.client → n.now < n.restarted key.client + n.pace.life + most n.pace KEEP
        lost gone =
            let over = subst (λ (o : Option ServerTransaction). BeginIs (λ begin. IsBegunBy n.pace n.now (n.server_clocks key.server)
            (n.restarted key.client + n.pace.life) begin) o) is (calm_at.left gone).entry_over in
            let within = within_most n.pace calm_at.timely KEEP over.began e.begin n.now (n.server_clocks key.server) calm_at.server over.since le in
            let before = over.before in
            omega arith

    pub copy_is_soon : (k : ℕ) (p : Copy) → slice_get (one n key).copies k ≡ Some p → n.now - p.moment ≤ n.pace.life
        → is_from_client p.apdu ≡ true → IsSoon n key
    copy_is_soon k p place young way = record { soon = soon; lost = lost }
      where
        soon : n.now ≤ client_until (moments_of n key) + n.pace.life
        soon =
            let f = sound_at W n key (Some t) at s.net in
            let le = says_client W (moments_of n key) (n.numbers key) t.ask n.log f.0 f.1 p.moment k p.apdu way
            ((f.2).arriving k p place young).1 in
            omega arith

        lost : n.made key < n.restarted key.client → n.now < n.restarted key.client + n.pace.life
        lost gone =
            let over = subst (λ (b : Bool). p.moment < n.restarted key.client + (if b then 0 else n.pace.life + most n.pace KEEP)) way
            ((calm_at.left gone).copies_over k p place) in
            omega arith

    -- The server answers with Aborts.

    -- the entry is as it was, or it begins anew
    abbrev pub BeginsAgain : Option ServerTransaction → Type 0
    BeginsAgain o = (o ≡ n.entries key) ⊎ ((e : ServerTransaction) × (n.entries key ≡ Some e) × (is_live (server_now n key) e ≡ true)
        × (o ≡ Some (record e { begin = server_now n key })) × IsSoon n key × (n.serves_from key.server ≤ server_now n key))

    module _ (time : IsInTime n key) (sends : List Apdu) where
      sound_with : (o : Option ServerTransaction) → ((up : Up) (down : Down) → Sound W (n.pieces key) key (moments_of n key) n.asks (n.numbers key) t (n.entries key)
          (one n key).copies n.log up down → ServerFits W (moments_of n key) (n.numbers key) t.ask o up down n.log)
          → IsSound W key (server_does (record (one n key) { ticket = Some t }) (server.rests o (aborts key.invoke_id sends)))
      sound_with o fits =
          let f = sound_at W n key (Some t) at s.net in
          let q = f.2 in (
            f.0,
            f.1,
            record {
              clock = q.clock;
              asked_within = q.asked_within;
              given_within = q.given_within;
              numbers = q.numbers;
              counted = q.counted;
              orderly = q.orderly;
              asked = q.asked;
              unended = q.unended;
              lives = q.lives;
              client = q.client;
              passes = q.passes;
              server = fits f.0 f.1 q;
              upload = q.upload;
              download = q.download;
              arriving = copies_go W (moments_of n key) (n.numbers key) t.ask n.log n.log f.0 f.0 f.1 f.1 (aborts key.invoke_id sends)
                  (one n key).copies (grows_same n.log) (up_same (length (aborts key.invoke_id sends)) f.0)
                  (down_same (length (aborts key.invoke_id sends)) f.1) q.clock.on
                  (each_abort (λ a. (k : ℕ) → Says W (moments_of n key) (n.numbers key) t.ask n.log f.0 f.1 n.now k a) key.invoke_id
                  (λ k. time.late) sends)
                  q.arriving;
            },
          )

      calm_with : (o : Option ServerTransaction) → IsOwnEntry key.invoke_id o
          → BeginIs (λ begin. IsBegunBy n.pace n.now (n.server_clocks key.server) (n.now + 1) begin) o
          → BeginIs (λ begin. n.serves_from key.server ≤ begin) o
          → (n.made key < n.restarted key.client
          → BeginIs (λ begin. IsBegunBy n.pace n.now (n.server_clocks key.server) (n.restarted key.client + n.pace.life) begin) o)
          → Calm (server_acts n key (server.rests o (aborts key.invoke_id sends)))
      calm_with o own begun opened over = calm_server n s.calm key (server.rests o (aborts key.invoke_id sends))
          (subst (λ (q : Option ClientTransaction). IsCalm (n.asks_from key.client) (moments_of n key) key q o
          (sent n.now (aborts key.invoke_id sends) (one n key).copies)) (sym at) (record {
            timely = calm_at.timely;
            client = calm_at.client;
            server = calm_at.server;
            sent = sent_by_now n.now (aborts key.invoke_id sends) (one n key).copies calm_at.sent;
            begun = begun;
            opened = opened;
            own = own;
            lives = calm_at.lives;
            left = λ gone.
                let left = calm_at.left gone in
                record {
                  idle = left.idle;
                  copies_over = each_sent (λ k c. c.moment < n.restarted key.client + (if is_from_client c.apdu then 0 else n.pace.life + most n.pace KEEP))
                      n.now (aborts key.invoke_id sends) (one n key).copies
                      (each_abort (λ a. (k : ℕ) → n.now < n.restarted key.client + (if is_from_client a then 0 else n.pace.life + most n.pace KEEP))
                      key.invoke_id (λ k. let le = time.lost gone in omega arith) sends)
                      (λ k c. left.copies_over k c);
                  entry_over = over gone;
                };
          }))

      aborts_with : (o : Option ServerTransaction) → NetSound W (server_acts n key (server.rests o (aborts key.invoke_id sends)))
          → Calm (server_acts n key (server.rests o (aborts key.invoke_id sends))) → Stands W (server_acts n key (server.rests o (aborts key.invoke_id sends)))
      aborts_with o sound calm = serves_keep W n s key (server.rests o (aborts key.invoke_id sends)) sound calm

      pub server_aborts : (o : Option ServerTransaction) → BeginsAgain o → Stands W (server_acts n key (server.rests o (aborts key.invoke_id sends)))
      server_aborts o (inl same) = subst (λ (q : Option ServerTransaction). Stands W (server_acts n key (server.rests q (aborts key.invoke_id sends)))) (sym same)
          (aborts_with (n.entries key)
          (net_server W n key t at s.net (server.rests (n.entries key) (aborts key.invoke_id sends)) (sound_with (n.entries key) (λ up down q. q.server)))
          (calm_with (n.entries key) calm_at.own calm_at.begun calm_at.opened (λ gone. (calm_at.left gone).entry_over)))
      server_aborts o (inr again) = subst (λ (q : Option ServerTransaction). Stands W (server_acts n key (server.rests q (aborts key.invoke_id sends))))
          (sym again.3)
          (aborts_with (Some new)
          (net_server W n key t at s.net (server.rests (Some new) (aborts key.invoke_id sends)) (sound_with (Some new) fits))
          (calm_with (Some new)
          (subst (λ (q : Option ServerTransaction). IsOwnEntry key.invoke_id q) again.1 calm_at.own)
          (record { began = n.now; before = omega arith; since = now_since })
          again.5
          (λ gone. record { began = n.now; before = again.4.lost gone; since = now_since })))
        where
          e : ServerTransaction
          e = again.0

          new : ServerTransaction
          new = record again.0 { begin = server_now n key }

          now_since : Since n.pace n.now (server_now n key) n.now (n.server_clocks key.server)
          now_since = since_now n.pace n.now (n.server_clocks key.server) calm_at.server

          fits : (up : Up) (down : Down) → Sound W (n.pieces key) key (moments_of n key) n.asks (n.numbers key) t (n.entries key)
              (one n key).copies n.log up down → ServerFits W (moments_of n key) (n.numbers key) t.ask (Some new) up down n.log
          fits up down q = go (subst (λ (o : Option ServerTransaction). ServerFits W (moments_of n key) (n.numbers key) t.ask o up down n.log) again.1 q.server)
            where
              live : is_live (server_now n key) e ≡ true
              live = again.2

              go : IsPastFor (moments_of n key) (n.numbers key) t.ask e up down n.log
                  ⊎ IsBegunFor W (moments_of n key) (n.numbers key) t.ask e up down n.log
                  → ServerFits W (moments_of n key) (n.numbers key) t.ask (Some new) up down n.log
              go (inl past) = let dead = past.dead in absurd (grind (arith, nat_tests))
              go (inr begun) = inr (record {
                begun = record { began = n.now; after = q.clock.on; before = again.4.soon; since = now_since };
                choice = begun.choice;
                first = begun.first;
                state = begun.state;
              })

    -- The client ends as with an Abort, and may say so.

    pub client_ends : is_idle t.phase ≡ false → client.is_expired (client_now n key) t.ask ≡ false
        → client.client_on_apdu (client_context x key (client_now n key)) x.readable t (Abort true key.invoke_id OTHER) ≡ Ends [] (Aborted OTHER)
        → (sends : List Apdu) → (sends ≡ []) ⊎ (sends ≡ Abort false key.invoke_id OTHER ∷ []) → Stands W (client_acts n key t (Ends sends (Aborted OTHER)))
    client_ends going early is sends few = reacts_keep W n s key t at (Ends sends (Aborted OTHER))
        (net_client W n key t at s.net (Ends sends (Aborted OTHER)) sound)
        (calm_client n s.calm key t at (Ends sends (Aborted OTHER)) (λ idle. absurd (let no : true ≡ false = sym idle ∙ going in cc)))
      where
        ended_sound : IsSound W key (client_does (one n key) t (Ends [] (Aborted OTHER)))
        ended_sound =
            let f = sound_at W n key (Some t) at s.net in
            subst (λ (r : client.Reaction). IsSound W key (client_does (one n key) t r)) is
            (client_gets_kept W bound.some (x.settings key.client) (bound.windows key.client) x.readable key
            (one n key) t f.0 f.1 f.2 0 0 (inl (let room = bound.room in omega arith)) (Abort true key.invoke_id OTHER) (omega arith))

        in_time : n.now ≤ client_until (moments_of n key)
        in_time =
            let f = sound_at W n key (Some t) at s.net in
            ((f.2).clock.counts ((f.2).lives going)).sends (grind (arith, nat_tests))

        says : (up : Up) (down : Down) (log : List Fact) → (xs : List Apdu) → (xs ≡ []) ⊎ (xs ≡ Abort false key.invoke_id OTHER ∷ [])
            → Each (λ a. (k : ℕ) → Says W (moments_of n key) (n.numbers key) t.ask log up down n.now k a) xs
        says up down log xs (inl none) = subst (λ (ys : List Apdu). Each (λ a. (k : ℕ) → Says W (moments_of n key) (n.numbers key) t.ask log up down n.now k a) ys)
            (sym none) tt
        says up down log xs (inr one) = subst (λ (ys : List Apdu). Each (λ a. (k : ℕ) → Says W (moments_of n key) (n.numbers key) t.ask log up down n.now k a) ys)
            (sym one) ((λ k. in_time), tt)

        sound : IsSound W key (client_does (one n key) t (Ends sends (Aborted OTHER)))
        sound =
            let f = ended_sound in
            let q = f.2 in (
              f.0,
              f.1,
              record {
                clock = q.clock;
                asked_within = q.asked_within;
                given_within = q.given_within;
                numbers = q.numbers;
                counted = q.counted;
                orderly = q.orderly;
                asked = q.asked;
                unended = q.unended;
                lives = q.lives;
                client = q.client;
                passes = q.passes;
                server = q.server;
                upload = q.upload;
                download = q.download;
                arriving = copies_go W (moments_of n key) (n.numbers key) t.ask (Ended (n.numbers key) (Aborted OTHER) ∷ n.log)
                    (Ended (n.numbers key) (Aborted OTHER) ∷ n.log) f.0 f.0 f.1 f.1 sends (one n key).copies
                    (grows_same (Ended (n.numbers key) (Aborted OTHER) ∷ n.log)) (up_same (length sends) f.0)
                    (down_same (length sends) f.1) q.clock.on (says f.0 f.1 (Ended (n.numbers key) (Aborted OTHER) ∷ n.log) sends few) q.arriving;
              },
            )
