-- The deliveries of a straight run are a straight run of the machines.
use Rattle.std.proofs.Common.{◌≡◌, ◌≤◌, ℕ, zero, suc, Bool, true, false, List, length, Option, Some, slice_get, refl, sym, ap, subst, ◌∙◌, arith}
use Rattle.bac_service.specs.Services.{reads_reply}
use Rattle.bac_store.specs.Stores.{Store}
use Rattle.bac_protocol.specs.Service.{Octets}
use Rattle.bac_protocol.specs.Transaction.{Key, Rules}
use Rattle.bac_protocol.specs.World.{Post}
use Rattle.bac_protocol.specs.Claims.{IsBounded}
use Rattle.bac_protocol.specs.Straight.{like_machine, Straight}
use Rattle.bac_transaction.specs.Ends.{is_free}
use Rattle.bac_world.specs.Node.{Node}
use Rattle.bac_world.specs.Once.{Stores}
use Rattle.bac_world.specs.World.{World, told}
use Rattle.bac_world.proofs.Pairs.{pairwise_get}
use Rattle.bac_world.proofs.Bridge.{IsCopyOf, slot_key}
use Rattle.bac_liveness.specs.StraightRuns.{DeliverEach}
use Rattle.bac_liveness.proofs.StraightRuns.Posts.{AreOwn, within}
use Rattle.bac_liveness.proofs.StraightRuns.Growing.{Grows, grows_not, grows_then}
use Rattle.bac_liveness.proofs.StraightRuns.StoreModels.{Machines, model}
use Rattle.bac_liveness.proofs.StraightRuns.Delivering.{Fit, delivers}
use Rattle.bac_liveness.proofs.StraightRuns.Tickets.{open_there}

module _ (links : ℕ → Option Octets) (apart : (i j : ℕ) (l : Octets) → links i ≡ Some l → links j ≡ Some l → i ≡ j) (W : ℕ) (x : Rules)
    (bound : IsBounded W x) (readable : x.readable ≡ reads_reply) (opening : Stores) where
  pub record Followed (w new : World) (v : Machines) (old : List Post) (key : Key) (has_slot : Bool) (count number : ℕ) : Type 0 where
    pub end : Machines
    pub run : Straight (Option Store) (like_machine (Option Store) model x key) key has_slot count number v end
    pub fit : Fit links apart W x bound readable opening new end
    pub own : AreOwn old key end.net.posts
    pub time : new.time ≡ w.time
    pub grows : Grows w.log new.log

  module _ (old : List Post) (key : Key) (ne : key.client ≡ key.server → ⊥) (l : Octets) (at : links key.server ≡ Some l) where
    -- the server has a slot without a live entry
    abbrev HasSlot : World → Type 0
    HasSlot w = (b : Node) × (slice_get w.nodes key.server ≡ Some b) × (is_free (told w key.server) b.servers ≡ true)

    pub follows : (count number : ℕ) (w new : World) (v : Machines) → Fit links apart W x bound readable opening w v → AreOwn old key v.net.posts
        → length old ≤ number → DeliverEach x.overtake key.client (slot_key l key.invoke_id) count number w new
        → (has_slot : Bool) → (has_slot ≡ true → HasSlot w) → Followed w new v old key has_slot count number
    follows zero number w new v f own le run has_slot slot = record {
      end = v;
      run = refl;
      fit = subst (λ (y : World). Fit links apart W x bound readable opening y v) (sym run) f;
      own = own;
      time = ap (λ (y : World). y.time) run;
      grows = grows_not w.log new.log (ap (λ (y : World). y.log) run);
    }
    follows (suc count) number w new v f own le run has_slot slot =
        let u : World = run.1 in
        let d = delivers links apart W x bound readable opening w u v f number run.2.copy run.2.there old key ne own le run.2.goes in
        let again = follows count (suc number) u new d.next d.fit d.own (omega arith) run.3 false (λ e. absurd cc) in
        let p = pairwise_get (IsCopyOf links apart) v.net.posts w.copies number run.2.copy f.over.posts run.2.there in
        record {
          end = again.end;
          run = (
            d.free,
            (λ e. let b = slot e in d.slot b.0 b.1 b.2),
            open_there links apart W x w v.net f.over key l at run.0,
            within v.net.posts number p.other p.there,
            d.next,
            d.step,
            again.run,
          );
          fit = again.fit;
          own = again.own;
          time = again.time ∙ d.time;
          grows = grows_then w.log u.log new.log d.grows again.grows;
        }
