-- The node that goes on has an invoke ID and a slot for what is asked first.
use Rattle.std.proofs.Common.{◌≡◌, ◌≢◌, ℕ, Bool, true, false, Option, Some, None, Result, Ok, Err, refl, sym, ap, inl, inr, subst}
use Rattle.std.specs.Prelude.{IfOk}
use Rattle.bac_driver.specs.Nodes.{Octets}
use Rattle.bac_text.specs.declared.status.Status.{Status}
use Rattle.bac_driver.specs.Nodes.{Node}
use Rattle.bac_driver.specs.Asking.{Question}
use Rattle.bac_driver.specs.BoundNodes.{BoundNode}
use Rattle.bac_driver.specs.Moments.{Told, with_moment}
use Rattle.bac_driver.specs.Runs.{Timed, timed}
use Rattle.bac_driver.specs.declared.question.AskEnd.{AskEnd}
use Rattle.bac_driver.specs.declared.question.AskEnd.TheVariants as end
use Rattle.bac_commands.specs.Houses.{client_node}
use Rattle.bac_commands.proofs.FreshClients.{never_spent}
use Rattle.bac_asking.specs.Clients.{AsksAt, AsksFrom, AsksOn, IsReady, IsRenewed, ends_spent}
use Rattle.bac_asking.specs.Fleets.{Fleet}
use Rattle.bac_asking.specs.Online.{IsClient, LooksOnce}
use Rattle.bac_asking.specs.InFlight.{BeginsAsk, BeginsNext, BeginsOn, BeginsSo, IsPassedOver, TriesToBegin, begins_spent}
use Rattle.bac_environment.specs.Sockets.{Links}
use Rattle.bac_asking.specs.declared.asking.Asking.{Asking}
use Rattle.bac_asking.specs.declared.flights.Begun.{Begun}
use Rattle.bac_asking.specs.declared.flights.Begun.TheVariants as begun

pub asks_free : (IsOn : Links) (asking : Asking) (q : Question) (how : AskEnd) (spent fresh after : Timed)
    → IsRenewed IsOn spent fresh → AsksFrom asking q how fresh after → ends_spent how ≡ false
asks_free IsOn asking q (end.Ended how) spent fresh after renewed asks = refl
asks_free IsOn asking q (end.Refused why) spent fresh after renewed asks =
    never_spent q why _ after fresh.told.last renewed.client.first_id renewed.client.at.at.address renewed.client.at.at.node asks.ends
asks_free IsOn asking q end.NoEnding spent fresh after renewed asks = refl

pub begins_free : (IsOn : Links) (asking : Asking) (q : Question) (b : Begun) (spent fresh after : Timed)
    → IsRenewed IsOn spent fresh → BeginsAsk asking q b fresh after → begins_spent b ≡ false
begins_free IsOn asking q (begun.Accepted ticket wait_limit) spent fresh after renewed begins = refl
begins_free IsOn asking q (begun.Refused why) spent fresh after renewed begins =
    never_spent q why _ after fresh.told.last renewed.client.first_id renewed.client.at.at.address renewed.client.at.at.node begins.begun

-- a node that begins at the moment that its clock printed begins at the latest one of it
pub begun_last : (old told : Told) (now first_id : ℕ) (address : Octets) (n : Node) → told ≡ with_moment old now → n ≡ client_node now first_id address
    → n ≡ client_node told.last first_id address
begun_last old told now first_id address n tells is =
    subst (λ (m : ℕ). n ≡ client_node m first_id address) (sym (ap (λ (t : Told). t.last) tells)) is

-- the next node stands where the one before stood
pub renewed_there : (IsOn : Links) (host : Octets) (old : Timed) (fresh there : BoundNode) (told : Told) → there ≡ fresh → IsClient IsOn host (timed fresh told)
    → fresh.node.link ≢ old.bound_node.node.link → LooksOnce old.told told → IsRenewed IsOn old (timed there told)
renewed_there IsOn host old fresh there told is client apart looks =
    subst (λ (b : BoundNode). IsRenewed IsOn old (timed b told)) (sym is) (record { host = host; client = client; apart = apart; told = looks })

-- the next node is ready, from the moment on at which the clock was looked at
pub ready_anew : (IsOn : Links) (start : ℕ) (before after : Timed) (told : Told) → told ≡ with_moment before.told start
    → IsRenewed IsOn (timed before.bound_node told) after → IsReady IsOn start before after
ready_anew IsOn start before after told is renewed =
    inr (subst (λ (t : Told). IsRenewed IsOn (timed before.bound_node t) after) is renewed)

-- the node that was ready asked
pub asked_ready : (IsOn : Links) (asking : Asking) (q : Question) (how : AskEnd) (start : ℕ) (before ready after : Timed) → ends_spent how ≡ false
    → IsReady IsOn start before ready → AsksAt start asking q how ready after → AsksOn IsOn asking q how before after
asked_ready IsOn asking q how start before ready after free is_ready asks =
    record { free = free; asks = inl (record { start = start; ready = ready; is_ready = is_ready; asks = asks }) }

-- the next node asked
pub asked_anew : (IsOn : Links) (asking : Asking) (q : Question) (refusal : AskEnd) (start : ℕ) (r : Result AskEnd Status)
    (before ready refused fresh after : Timed) → ends_spent refusal ≡ true → IsReady IsOn start before ready
    → AsksAt start asking q refusal ready refused → IsRenewed IsOn refused fresh
    → IfOk r (λ how. AsksFrom asking q how fresh after) → IfOk r (λ how. AsksOn IsOn asking q how before after)
asked_anew IsOn asking q refusal start (Ok how) before ready refused fresh after spent is_ready refuses renewed asks =
    record {
      free = asks_free IsOn asking q how refused fresh after renewed asks;
      asks =
          inr (record {
            refusal = refusal;
            spent = spent;
            refused = refused;
            refuses = record { start = start; ready = ready; is_ready = is_ready; asks = refuses };
            fresh = fresh;
            renewed = renewed;
            asks = asks;
          });
    }
asked_anew IsOn asking q refusal start (Err s) before ready refused fresh after spent is_ready refuses renewed asks = tt

-- the node began it itself
pub begun_here : (IsOn : Links) (asking : Asking) (q : Question) (idle : Bool) (told : Option Begun) (b : Begun) (before after : Timed) (f : Fleet)
    → told ≡ Some b → TriesToBegin asking q told before after → BeginsOn IsOn asking q idle (Some b) before after f f
begun_here IsOn asking q idle told b before after f some tries =
    let so : BeginsSo asking q b before after = subst (λ (o : Option Begun). TriesToBegin asking q o before after) some tries in
    record { free = so.free; begins = inl (record { begins = so.begins; same = refl }) }

begun_at : (IsOn : Links) (asking : Asking) (q : Question) (idle : Bool) (o : Option Begun) (before passed after : Timed) (f g : Fleet)
    → IsPassedOver asking q before passed → BeginsNext IsOn asking q idle o passed after f g → BeginsOn IsOn asking q idle o before after f g
begun_at IsOn asking q idle None before passed after f g passes next =
    record {
      busy = next.busy;
      full = next.full;
      passes = subst (λ (t : Timed). IsPassedOver asking q before t) (sym next.still) passes;
      same = next.same;
    }
begun_at IsOn asking q idle (Some b) before passed after f g passes next =
    record {
      free = begins_free IsOn asking q b passed next.fresh after next.renewed next.begins;
      begins = inr (record { passed = passed; passes = passes; there = next });
    }

-- it was passed over, and the next one began it, or had to wait
pub begun_next : (IsOn : Links) (asking : Asking) (q : Question) (idle : Bool) (told : Option Begun) (r : Result (Option Begun) Status)
    (before passed after : Timed) (f g : Fleet) → told ≡ None → TriesToBegin asking q told before passed
    → IfOk r (λ o. BeginsNext IsOn asking q idle o passed after f g) → IfOk r (λ o. BeginsOn IsOn asking q idle o before after f g)
begun_next IsOn asking q idle told (Ok o) before passed after f g none tries next =
    begun_at IsOn asking q idle o before passed after f g (subst (λ (t : Option Begun). TriesToBegin asking q t before passed) none tries) next
begun_next IsOn asking q idle told (Err s) before passed after f g none tries next = tt
