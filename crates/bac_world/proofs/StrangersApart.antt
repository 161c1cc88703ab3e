-- What strangers had performed is apart.
use Rattle.std.specs.Prelude.{None}
use Rattle.std.proofs.Common.{ℕ, ◌+◌, ◌<◌, List, [], ◌∷◌, sym, subst, inl, inr, arith, ◌∙◌}
use Rattle.bac_npdu.specs.Peers.{PeerView}
use Rattle.bac_service.specs.Values.{Request}
use Rattle.bac_service.specs.Replies.{Reply}
use Rattle.bac_protocol.specs.declared.times.TheConstants.{KEEP}
use Rattle.bac_protocol.specs.Service as machine
use Rattle.bac_protocol.specs.Log as octets
use Rattle.bac_protocol.specs.Claims as claims
use Rattle.bac_transaction.specs.Sends.{Pairwise}
use Rattle.bac_world.specs.Once.{Fact}
use Rattle.bac_world.specs.Once.Fact.{Asked, Performed, Ended, Changed, Restarted, Served, AskedAway, EndedAway}
use Rattle.bac_world.specs.Claims.{HasSinceRestart, AreSpaced}
use Rattle.bac_world.proofs.Numbers.{number}
use Rattle.bac_world.proofs.Logs.{FactMeans}

-- the octets' log has it since that server restarted last
pub record WasServed (i : ℕ) (q : ℕ) (j d a : ℕ) (log : List octets.Fact) : Type 0 where
  pub request : machine.Request
  pub reply : machine.Reply
  pub has : claims.HasSinceRestart i (octets.Fact.Served q j d a request reply) log

pub served_as : (i : ℕ) (y : PeerView) (j d a : ℕ) (r : Request) (p : Reply) (log : List octets.Fact) (values : List Fact) → Pairwise (FactMeans None) log values
    → HasSinceRestart i (Served y j d a r p) values → WasServed i (number y) j d a log
served_as i y j d a r p [] [] h k = absurd k
served_as i y j d a r p [] (v ∷ values) h k = absurd h
served_as i y j d a r p (f ∷ log) [] h k = absurd k
served_as i y j d a r p (f ∷ log) (v ∷ values) h k = go f v h.0 (served_as i y j d a r p log values h.1) k
  where
    go : (f : octets.Fact) (v : Fact) → FactMeans None f v
        → (HasSinceRestart i (Served y j d a r p) values → WasServed i (number y) j d a log)
        → HasSinceRestart i (Served y j d a r p) (v ∷ values) → WasServed i (number y) j d a (f ∷ log)
    go (octets.Fact.Asked m c s q) (Asked n e u x) m' again (inl e') = absurd cc
    go (octets.Fact.Asked m c s q) (Asked n e u x) m' again (inr k) = let o = again k in record { request = o.request; reply = o.reply; has = inr o.has }
    go (octets.Fact.Performed m q x) (Performed n z v) m' again (inl e') = absurd cc
    go (octets.Fact.Performed m q x) (Performed n z v) m' again (inr k) = let o = again k in record { request = o.request; reply = o.reply; has = inr o.has }
    go (octets.Fact.Ended m how) (Ended n v) m' again (inl e') = absurd cc
    go (octets.Fact.Ended m how) (Ended n v) m' again (inr k) = let o = again k in record { request = o.request; reply = o.reply; has = inr o.has }
    go (octets.Fact.Changed z o') (Changed n c) m' again (inl e') = absurd cc
    go (octets.Fact.Changed z o') (Changed n c) m' again (inr k) = let o = again k in record { request = o.request; reply = o.reply; has = inr o.has }
    go (octets.Fact.Restarted z o') (Restarted n s) m' again k =
        let o = again k.1 in record { request = o.request; reply = o.reply; has = (λ is. k.0 (m' ∙ is), o.has) }
    go (octets.Fact.AskedAway m c q x) (AskedAway n e z x') m' again (inl e') = absurd cc
    go (octets.Fact.AskedAway m c q x) (AskedAway n e z x') m' again (inr k) = let o = again k in record { request = o.request; reply = o.reply; has = inr o.has }
    go (octets.Fact.EndedAway m how) (EndedAway n v) m' again (inl e') = absurd cc
    go (octets.Fact.EndedAway m how) (EndedAway n v) m' again (inr k) = let o = again k in record { request = o.request; reply = o.reply; has = inr o.has }
    go (octets.Fact.Served q s z b r' p') (Served y' j' d' b' r'' p'') m' again (inr k) =
        let o = again k in record { request = o.request; reply = o.reply; has = inr o.has }
    go (octets.Fact.Served q s z b r' p') (Served y' j' d' b' r'' p'') m' again (inl e') =
        let m : FactMeans None (octets.Fact.Served q s z b r' p') (Served y j d a r p) = subst (λ (u : Fact). FactMeans None (octets.Fact.Served q s z b r' p') u) e' m' in
        record { request = r'; reply = p'; has = inl (λ t. octets.Fact.Served (sym m.0 t) (sym m.1 t) (sym m.2 t) (sym m.3 t) r' p') }
    go _ _ m' again k = absurd m'

pub spaced : (log : List octets.Fact) (values : List Fact) → Pairwise (FactMeans None) log values → claims.AreSpaced log → AreSpaced values
spaced [] [] h k = tt
spaced [] (v ∷ values) h k = absurd h
spaced (f ∷ log) [] h k = tt
spaced (f ∷ log) (v ∷ values) h k = go f v h.0 (spaced log values h.1) k
  where
    go : (f : octets.Fact) (v : Fact) → FactMeans None f v → (claims.AreSpaced log → AreSpaced values) → claims.AreSpaced (f ∷ log) → AreSpaced (v ∷ values)
    go (octets.Fact.Asked m c s q) (Asked n e u r) h again k = again k
    go (octets.Fact.Performed m q p) (Performed n r v) h again k = again k
    go (octets.Fact.Ended m how) (Ended n v) h again k = again k
    go (octets.Fact.Changed i o) (Changed j c) h again k = again k
    go (octets.Fact.Restarted i o) (Restarted j s) h again k = again k
    go (octets.Fact.AskedAway m c q r) (AskedAway n e y r') h again k = again k
    go (octets.Fact.EndedAway m how) (EndedAway n v) h again k = again k
    go (octets.Fact.Served q s i b r p) (Served y j d b' r' p') m again k = (late, again k.1)
      where
        late : (a : ℕ) (u : Request) (w : Reply) → HasSinceRestart j (Served y j d a u w) values → a + KEEP < b'
        late a u w there =
            let o = served_as j y j d a u w log values h.1 there in
            let lt = k.0 a o.request o.reply (subst (λ (z : ℕ). claims.HasSinceRestart s (octets.Fact.Served z s i a o.request o.reply) log) m.0
            (subst (λ (z : ℕ). claims.HasSinceRestart z (octets.Fact.Served (number y) z i a o.request o.reply) log) m.1
            (subst (λ (z : ℕ). claims.HasSinceRestart j (octets.Fact.Served (number y) j z a o.request o.reply) log) m.2 o.has))) in
            let is = m.3 in
            omega arith
    go _ _ h again k = absurd h
