-- What three facts of the machines' log mean.
use Rattle.std.specs.Prelude.{None}
use Rattle.std.proofs.Common.{◌≡◌, ℕ, suc, ◌+◌, List, [], ◌∷◌, ◌++◌, length, refl, sym, ap, subst, inl, inr, ◌∙◌, arith, length-append}
use Rattle.bac_service.specs.Values.{Request}
use Rattle.bac_service.specs.Replies.{Reply}
use Rattle.bac_service.specs.Requests.{SpellsRequest}
use Rattle.bac_service.proofs.OnlySpelling.{one_request}
use Rattle.bac_protocol.specs.Service as machine
use Rattle.bac_protocol.specs.Service.{Octets}
use Rattle.bac_protocol.specs.Log as machine_log
use Rattle.bac_transaction.specs.Sends.{Pairwise}
use Rattle.bac_transaction.specs.Meanings.Ending.{Answered}
use Rattle.bac_world.specs.Once.{Fact, Has, Stores, IsOnce}
use Rattle.bac_world.specs.Once.Fact.{Asked, Performed, Ended, Changed, Restarted, Served, AskedAway, EndedAway}
use Rattle.bac_world.proofs.Logs.{FactMeans}
use Rattle.bac_liveness.proofs.Values.{not_performed}

abbrev pub three : Fact → Fact → Fact → List Fact → List Fact
three a b c log = a ∷ b ∷ c ∷ log

pub record IsThree (old new : List Fact) : Type 0 where
  pub first : Fact
  pub second : Fact
  pub third : Fact
  pub is : new ≡ three first second third old

pub three_more : (old new more : List Fact) → new ≡ more ++ old → length new ≡ 3 + length old → IsThree old new
three_more old new [] is count = let e : length new ≡ length old = ap (λ (l : List Fact). length l) is in absurd (omega arith)
three_more old new (a ∷ []) is count = let e : length new ≡ suc (length old) = ap (λ (l : List Fact). length l) is in absurd (omega arith)
three_more old new (a ∷ b ∷ []) is count = let e : length new ≡ suc (suc (length old)) = ap (λ (l : List Fact). length l) is in absurd (omega arith)
three_more old new (a ∷ b ∷ c ∷ []) is count = record { first = a; second = b; third = c; is = is }
three_more old new (a ∷ b ∷ c ∷ d ∷ more) is count =
    let e : length new ≡ length (a ∷ b ∷ c ∷ d ∷ more ++ old) = ap (λ (l : List Fact). length l) is in
    let f = length-append more old in
    absurd (omega arith)

pub pairwise_length : {A B : Type 0} (R : A → B → Type 0) (xs : List A) (ys : List B) → Pairwise R xs ys → length xs ≡ length ys
pairwise_length R [] [] h = refl
pairwise_length R [] (y ∷ ys) h = absurd h
pairwise_length R (x ∷ xs) [] h = absurd h
pairwise_length R (x ∷ xs) (y ∷ ys) h = ap suc (pairwise_length R xs ys h.1)

module _ (opening stores : Stores) (n c s choice : ℕ) (octets : Octets) (r : Request) (spelled : SpellsRequest choice r octets) (reply : machine.Reply)
    (log : List Fact) where
  -- in a log that is right an answer is that of the performed request before it
  answer_is : (p q : Reply) → IsOnce opening (three (Ended n (Answered q)) (Performed n r p) (Asked n c s r) log) stores → q ≡ p
  answer_is p q once = go once.1.0.1
    where
      go : Has (Performed n once.1.0.0 q) (Performed n r p ∷ Asked n c s r ∷ log) → q ≡ p
      go (inl e) = let same : p ≡ q = cc in sym same
      go (inr (inl e)) = absurd cc
      go (inr (inr h)) = absurd (not_performed n once.1.0.0 q log once.2.1.first h)

  abbrev request : machine.Request
  request = record { choice = choice; service = octets }

  abbrev ended : machine_log.Fact
  ended = machine_log.Fact.Ended n (machine.Ending.Answered reply)

  abbrev performed : machine_log.Fact
  performed = machine_log.Fact.Performed n request reply

  abbrev asked : machine_log.Fact
  asked = machine_log.Fact.Asked n c s request

  -- an ask, its performing and its answer as values
  pub record AreFacts (x y z : Fact) : Type 0 where
    pub reply' : Reply
    pub is : three x y z log ≡ three (Ended n (Answered reply')) (Performed n r reply') (Asked n c s r) log

  pub facts_are : (x y z : Fact) → FactMeans None ended x → FactMeans None performed y → FactMeans None asked z → IsOnce opening (three x y z log) stores → AreFacts x y z
  facts_are (Ended i how) (Performed j q v) (Asked k a b u) hx hy hz once = go how hx once
    where
      go : (how : _) → FactMeans None ended (Ended i how) → IsOnce opening (three (Ended i how) (Performed j q v) (Asked k a b u) log) stores
          → AreFacts (Ended i how) (Performed j q v) (Asked k a b u)
      go (Answered y) hx once =
          let q_is : q ≡ r = one_request choice q r octets hy.1 spelled in
          let u_is : u ≡ r = one_request choice u r octets hz.3 spelled in
          let so : three (Ended i (Answered y)) (Performed j q v) (Asked k a b u) log ≡ three (Ended n (Answered y)) (Performed n r v) (Asked n c s r) log =
          λ d. three (Ended (hx.0 d) (Answered y)) (Performed (hy.0 d) (q_is d) v) (Asked (hz.0 d) (hz.1 d) (hz.2 d) (u_is d)) log in
          let e : y ≡ v = answer_is v y (subst (λ (l : List Fact). IsOnce opening l stores) so once) in
          record { reply' = v; is = so ∙ ap (λ (z : Reply). three (Ended n (Answered z)) (Performed n r v) (Asked n c s r) log) e }
      go how hx once = absurd hx.1.1
  facts_are (Asked i d e f) y z hx hy hz once = absurd hx
  facts_are (Performed i d e) y z hx hy hz once = absurd hx
  facts_are (Changed i d) y z hx hy hz once = absurd hx
  facts_are (Restarted i d) y z hx hy hz once = absurd hx
  facts_are (Served q i d b x v) y z hx hy hz once = absurd hx
  facts_are (AskedAway i d q f) y z hx hy hz once = absurd hx
  facts_are (EndedAway i d) y z hx hy hz once = absurd hx
  facts_are (Ended i how) (Asked j d e f) z hx hy hz once = absurd hy
  facts_are (Ended i how) (Ended j d) z hx hy hz once = absurd hy
  facts_are (Ended i how) (Changed j d) z hx hy hz once = absurd hy
  facts_are (Ended i how) (Restarted j d) z hx hy hz once = absurd hy
  facts_are (Ended i how) (Served q k d b x v) z hx hy hz once = absurd hy
  facts_are (Ended i how) (AskedAway j d q f) z hx hy hz once = absurd hy
  facts_are (Ended i how) (EndedAway j d) z hx hy hz once = absurd hy
  facts_are (Ended i how) (Performed j q v) (Performed k d e) hx hy hz once = absurd hz
  facts_are (Ended i how) (Performed j q v) (Ended k d) hx hy hz once = absurd hz
  facts_are (Ended i how) (Performed j q v) (Changed k d) hx hy hz once = absurd hz
  facts_are (Ended i how) (Performed j q v) (Restarted k d) hx hy hz once = absurd hz
  facts_are (Ended i how) (Performed j q v) (Served y k d b x w) hx hy hz once = absurd hz
  facts_are (Ended i how) (Performed j q v) (AskedAway k d y f) hx hy hz once = absurd hz
  facts_are (Ended i how) (Performed j q v) (EndedAway k d) hx hy hz once = absurd hz
