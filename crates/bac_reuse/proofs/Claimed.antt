-- What a right log says of writes and of answers.
use Rattle.std.proofs.Common.{◌≡◌, ℕ, ◌⊎◌, true, false, List, [], ◌∷◌, ◌++◌, ap, sym, subst, inl, inr, ◌∙◌}
use Rattle.bac_protocol.specs.Service.{Reply, Request}
use Rattle.bac_protocol.specs.Service.Ending.{Answered}
use Rattle.bac_protocol.specs.Log.{Fact, Has, IsOnce, IsUnperformed, StoreModel}
use Rattle.bac_protocol.specs.Log.Fact.{Asked, AskedAway, Changed, Ended, EndedAway, Performed, Restarted, Served}
use Rattle.bac_reuse.specs.Claims.{AnswersAreOfTheirTime, WasGiven, WritesAreOnce}
use Rattle.bac_reuse.specs.Once.{HasNoRead, IsOnceSo, MayEnterSo}
use Rattle.bac_reuse.specs.Runs.{NoneReuses, Reusing}

module _ (S : Type 0) (model : StoreModel S) (u : Reusing) (opening : ℕ → S) where
  -- where the log is right, it was so before
  before : (newer older : List Fact) (f : Fact) (stores : ℕ → S) → IsOnceSo S model u opening (newer ++ f ∷ older) stores
      → (new : ℕ → S) × IsOnceSo S model u opening (f ∷ older) new
  before [] older f stores h = (stores, h)
  before (g ∷ newer) older f stores h = before newer older f h.0 h.2

  is_right : (log newer older : List Fact) (f : Fact) (stores : ℕ → S) → log ≡ newer ++ f ∷ older → IsOnceSo S model u opening log stores
      → (new : ℕ → S) × IsOnceSo S model u opening (f ∷ older) new
  is_right log newer older f stores is h = before newer older f stores (subst (λ (l : List Fact). IsOnceSo S model u opening l stores) is h)

  pub writes_once : (log : List Fact) (stores : ℕ → S) → IsOnceSo S model u opening log stores → WritesAreOnce u.reads log
  writes_once log stores h newer older n r p is write = go may.1 may.3
    where
      may : MayEnterSo S model u (Performed n r p) older (is_right log newer older (Performed n r p) stores is h).1.0
          (is_right log newer older (Performed n r p) stores is h).0
      may = (is_right log newer older (Performed n r p) stores is h).1.1

      go : (s : ℕ) → IsUnperformed n older ⊎ ((u.reuses s ≡ true) × (u.reads r.choice ≡ true)) → IsUnperformed n older
      go s (inl un) = un
      go s (inr read) = absurd (let no : true ≡ false = sym read.1 ∙ write in cc)

  found : (f : Fact) (log : List Fact) → Has f log → (newer : List Fact) × (older : List Fact) × (log ≡ newer ++ f ∷ older)
  found f [] h = absurd h
  found f (g ∷ log) (inl same) = ([], log, ap (λ (x : Fact). x ∷ log) same)
  found f (g ∷ log) (inr h) = let k = found f log h in (g ∷ k.0, k.1, ap (λ (l : List Fact). g ∷ l) k.2)

  given : (n : ℕ) (p : Reply) (r : Request) (log : List Fact) (stores : ℕ → S) → IsOnceSo S model u opening log stores → Has (Performed n r p) log
      → WasGiven S model u opening n p log
  given n p r log stores h has =
      let at = found (Performed n r p) log has in
      let k = (is_right log at.0 at.1 (Performed n r p) stores at.2 h).1 in
      record {
        newer = at.0;
        older = at.1;
        request = r;
        client = k.1.0;
        server = k.1.1;
        stores = k.0;
        is = at.2;
        asked = k.1.2;
        reply = k.1.4;
        leads = k.2;
      }

  pub of_their_time : (log : List Fact) (stores : ℕ → S) → IsOnceSo S model u opening log stores → AnswersAreOfTheirTime S model u opening log
  of_their_time log stores h newer older n p is =
      let k = (is_right log newer older (Ended n (Answered p)) stores is h).1 in
      given n p k.1.0.0 older k.0 k.2 k.1.0.1

  -- Where nothing that was performed is a read, the log is right in the headline's sense.
  pub without_reads : (log : List Fact) (stores : ℕ → S) → HasNoRead u.reads log → IsOnceSo S model u opening log stores → IsOnce S model opening log stores
  without_reads [] stores none h = h
  without_reads (Asked n c s r ∷ log) stores none h = (h.0, h.1, without_reads log h.0 none h.2)
  without_reads (Performed n r p ∷ log) stores none h = (h.0, (h.1.0, h.1.1, h.1.2, go h.1.3, h.1.4, h.1.5), without_reads log h.0 none.1 h.2)
    where
      go : IsUnperformed n log ⊎ ((u.reuses h.1.1 ≡ true) × (u.reads r.choice ≡ true)) → IsUnperformed n log
      go (inl un) = un
      go (inr read) = absurd (let no : true ≡ false = sym read.1 ∙ none.0 in cc)
  without_reads (Ended n how ∷ log) stores none h = (h.0, h.1, without_reads log h.0 none h.2)
  without_reads (Changed s c ∷ log) stores none h = (h.0, h.1, without_reads log h.0 none h.2)
  without_reads (Restarted s o ∷ log) stores none h = (h.0, h.1, without_reads log h.0 none h.2)
  without_reads (Served q s i b r p ∷ log) stores none h = (h.0, h.1, without_reads log h.0 none h.2)
  without_reads (AskedAway n c q r ∷ log) stores none h = (h.0, h.1, without_reads log h.0 none h.2)
  without_reads (EndedAway n how ∷ log) stores none h = (h.0, h.1, without_reads log h.0 none h.2)

  -- So it is where no server lets invoke IDs be used again.
  pub without_reuse : NoneReuses u → (log : List Fact) (stores : ℕ → S) → IsOnceSo S model u opening log stores → IsOnce S model opening log stores
  without_reuse none [] stores h = h
  without_reuse none (Asked n c s r ∷ log) stores h = (h.0, h.1, without_reuse none log h.0 h.2)
  without_reuse none (Performed n r p ∷ log) stores h = (h.0, (h.1.0, h.1.1, h.1.2, go h.1.3, h.1.4, h.1.5), without_reuse none log h.0 h.2)
    where
      go : IsUnperformed n log ⊎ ((u.reuses h.1.1 ≡ true) × (u.reads r.choice ≡ true)) → IsUnperformed n log
      go (inl un) = un
      go (inr read) = absurd (let no : true ≡ false = sym read.0 ∙ none h.1.1 in cc)
  without_reuse none (Ended n how ∷ log) stores h = (h.0, h.1, without_reuse none log h.0 h.2)
  without_reuse none (Changed s c ∷ log) stores h = (h.0, h.1, without_reuse none log h.0 h.2)
  without_reuse none (Restarted s o ∷ log) stores h = (h.0, h.1, without_reuse none log h.0 h.2)
  without_reuse none (Served q s i b r p ∷ log) stores h = (h.0, h.1, without_reuse none log h.0 h.2)
  without_reuse none (AskedAway n c q r ∷ log) stores h = (h.0, h.1, without_reuse none log h.0 h.2)
  without_reuse none (EndedAway n how ∷ log) stores h = (h.0, h.1, without_reuse none log h.0 h.2)
