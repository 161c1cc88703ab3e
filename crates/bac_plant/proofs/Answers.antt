-- Each answer that ends an ask is the reply of its server's store at a moment in between.
use Rattle.std.proofs.Common.{◌≡◌, ℕ, false, List, [], ◌∷◌, ◌++◌, sym, ap, subst, inl, inr, ◌∙◌}
use Rattle.bac_protocol.specs.Pace.{IsTimely}
use Rattle.bac_service.specs.Replies.{Reply}
use Rattle.bac_service.specs.Values.{Request}
use Rattle.bac_transaction.specs.Meanings.Ending.{Answered}
use Rattle.bac_world.specs.Claims.{AreReplayed}
use Rattle.bac_world.specs.LongApdus.{AllAskLong, RepliesFit, TakeLongApdus}
use Rattle.bac_world.specs.Once.{Fact, Has, IsOnce, Stores}
use Rattle.bac_world.specs.Once.Fact.{Asked, Ended, Performed}
use Rattle.bac_world.specs.ReusingLogs.{IsOnceSo, Reuses}
use Rattle.bac_world.specs.ReusingWorlds.{WorldRunSo}
use Rattle.bac_world.specs.World.{Event, IsBounded, IsFresh, World, stores_of}
use Rattle.bac_world.proofs.AsEver.{once_as}
use Rattle.bac_world.proofs.Headline.{headline_long_so, headline_so}
use Rattle.bac_plant.specs.Answers.{AnswersAreReplies, WasReply}
use Rattle.bac_world.proofs.Claims.{replayed_so}
use Rattle.bac_plant.proofs.AnswersLogs.{right_before, same_ask}

-- a fact of the log stands somewhere in it
pub place_of : (f : Fact) (log : List Fact) → Has f log → (newer : List Fact) × (older : List Fact) × (log ≡ newer ++ f ∷ older)
place_of f [] h = absurd h
place_of f (g ∷ log) (inl same) = ([], log, ap (λ (x : Fact). x ∷ log) same)
place_of f (g ∷ log) (inr h) = let k = place_of f log h in (g ∷ k.0, k.1, ap (λ (l : List Fact). g ∷ l) k.2)

-- what was there before a fact is there after it
pub has_more : (f : Fact) (newer older : List Fact) → Has f older → Has f (newer ++ older)
has_more f [] older h = h
has_more f (g ∷ newer) older h = inr (has_more f newer older h)

pub whole_ask : (n c s d t : ℕ) (r q : Request) → Asked n c s r ≡ Asked n d t q → (c ≡ d) × (s ≡ t) × (r ≡ q)
whole_ask n c s d t r q is = (cc, cc, cc)

module _ (u : Reuses) (opening : Stores) where
  pub right_at : (log newer older : List Fact) (f : Fact) (stores : Stores) → log ≡ newer ++ f ∷ older → IsOnceSo u opening log stores
      → (new : Stores) × IsOnceSo u opening (f ∷ older) new
  right_at log newer older f stores is h = right_before u opening newer older f stores (subst (λ (l : List Fact). IsOnceSo u opening l stores) is h)

  was_reply : (n : ℕ) (p : Reply) (r : Request) (log : List Fact) (stores : Stores) → IsOnceSo u opening log stores → Has (Performed n r p) log
      → WasReply opening n p log
  was_reply n p r log stores h has =
      let at = place_of (Performed n r p) log has in
      let k = (right_at log at.0 at.1 (Performed n r p) stores at.2 h).1 in
      let asked : Has (Asked n k.1.client k.1.server r) log =
      subst (λ (l : List Fact). Has (Asked n k.1.client k.1.server r) l) (sym at.2)
      (has_more (Asked n k.1.client k.1.server r) at.0 (Performed n r p ∷ at.1) (inr k.1.asked)) in
      record {
        client = k.1.client;
        server = k.1.server;
        request = r;
        later = at.0;
        earlier = at.1;
        is = at.2;
        asked = k.1.asked;
        only = λ c s q other. whole_ask n c s k.1.client k.1.server q r (same_ask u opening n c s k.1.client k.1.server q r log stores h other asked);
        store = k.1.store;
        at = sym (replayed_so u opening at.1 k.0 k.2 k.1.server) ∙ k.1.at;
        reply = k.1.reply;
      }

pub in_logs : (u : Reuses) (opening : Stores) (log : List Fact) (stores : Stores) → IsOnceSo u opening log stores → AnswersAreReplies opening log
in_logs u opening log stores h newer older n p is =
    let k = (right_at u opening log newer older (Ended n (Answered p)) stores is h).1 in
    was_reply u opening n p k.1.0.0 older k.0 k.2 k.1.0.1

pub in_logs_of_headline : (opening : Stores) (log : List Fact) (stores : Stores) → IsOnce opening log stores → AnswersAreReplies opening log
in_logs_of_headline opening log stores h = in_logs (λ node. false) opening log stores (once_as (λ node. false) opening log stores h)

module _ (W overtake : ℕ) (u : Reuses) (w w' : World) (fresh : IsFresh w) (timely : IsTimely w.time.pace) (bounded : IsBounded W overtake w)
    (events : List Event) (run : WorldRunSo overtake u w events w') where
  once : IsOnceSo u (stores_of w.nodes) w'.log (stores_of w'.nodes)
  once = headline_so u W overtake w w' fresh timely bounded events run

  pub in_runs : AnswersAreReplies (stores_of w.nodes) w'.log
  in_runs = in_logs u (stores_of w.nodes) w'.log (stores_of w'.nodes) once

  pub stores_in_runs : AreReplayed (stores_of w.nodes) w'.log (stores_of w'.nodes)
  stores_in_runs = replayed_so u (stores_of w.nodes) w'.log (stores_of w'.nodes) once

-- the same where all nodes take APDUs of 480 octets or more
module _ (W overtake : ℕ) (u : Reuses) (w w' : World) (fresh : IsFresh w) (timely : IsTimely w.time.pace) (long : TakeLongApdus W w)
    (events : List Event) (asks : AllAskLong events) (run : WorldRunSo overtake u w events w') (fits : RepliesFit w'.log) where
  once_long : IsOnceSo u (stores_of w.nodes) w'.log (stores_of w'.nodes)
  once_long = headline_long_so u W overtake w w' fresh timely long events asks run fits

  pub in_long_runs : AnswersAreReplies (stores_of w.nodes) w'.log
  in_long_runs = in_logs u (stores_of w.nodes) w'.log (stores_of w'.nodes) once_long

  pub stores_in_long_runs : AreReplayed (stores_of w.nodes) w'.log (stores_of w'.nodes)
  stores_in_long_runs = replayed_so u (stores_of w.nodes) w'.log (stores_of w'.nodes) once_long
