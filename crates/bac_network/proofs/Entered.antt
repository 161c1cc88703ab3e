-- What comes of a node's call enters the world.
use Rattle.std.proofs.Common.{◌≡◌, ℕ, Bool, true, false, List, [], ◌∷◌, ◌++◌, length, map, reverse, Option, Some, None, refl, sym, ap, subst}
use Rattle.std.proofs.Common.{inl, inr, ◌∙◌, arith}
use Rattle.std.proofs.lemmas.List.{length-map, length-reverse, map-append, reverse-append}
use Rattle.bac_transaction.specs.Meanings.{EndedView}
use Rattle.bac_world.specs.Node.{Node, Outcome}
use Rattle.bac_world.specs.Once as once
use Rattle.bac_world.specs.Services.{Performed}
use Rattle.bac_world.specs.ReusingWorlds.{ActsSo, AreLoggedSo}
use Rattle.bac_world.specs.World.{IsOfNone, Note, Acts, AreEnded, IsWithNode, ask_of, ending_fact, is_away, newest}
use Rattle.bac_journal.specs.Entering.{AreOfPeerSo, CanEnterSo, IsOfClient}
use Rattle.bac_journal.specs.Journals.{JournalView}
use Rattle.bac_journal.specs.Notes.{note_view, notes_view}
use Rattle.bac_journal.specs.declared.noting.Note as code
use Rattle.bac_network.specs.Clocks.{instant, time_at}
use Rattle.bac_network.specs.Entries.{AreNoted, CanBeEntered, EntersLog, HasClient, HaveClient, IsEntered, IsKeptFor}
use Rattle.bac_network.specs.Networks.{world_of, world_with, IsReady}
use Rattle.bac_network.specs.Views.{fact_view, log_view}
use Rattle.bac_network.specs.declared.fact.Fact.{Fact}
use Rattle.bac_network.specs.declared.network.Network.{Network}

-- The log.

pub log_push : (log : List Fact) (f : Fact) → log_view (log ++ f ∷ []) ≡ fact_view f ∷ log_view log
log_push log f = ap reverse (map-append fact_view log (f ∷ [])) ∙ reverse-append (map fact_view log) (fact_view f ∷ [])

pub notes_many : (notes : List code.Note) → length notes ≡ length (notes_view notes)
notes_many notes = sym (length-reverse (map note_view notes) ∙ length-map notes note_view)

pub more_ended : (notes : List Note) (node : ℕ) (fs gs : List EndedView) (a b c : List once.Fact) → AreEnded notes node fs a b → AreEnded notes node gs b c
    → AreEnded notes node (fs ++ gs) a c
more_ended notes node [] gs a b c h k = subst (λ (l : List once.Fact). AreEnded notes node gs l c) h k
more_ended notes node (f ∷ fs) gs a b c h k = (h.0, h.1, more_ended notes node fs gs (ending_fact (is_away h.0 notes) h.0 f.how ∷ a) b c h.2 k)

pub head_noted : (notes : List Note) (node : ℕ) (fs : List EndedView) (f : EndedView) (rest : List EndedView) → fs ≡ f ∷ rest → AreNoted notes node fs
    → AreNoted notes node (f ∷ [])
head_noted notes node fs f rest is h = let k : AreNoted notes node (f ∷ rest) = subst (AreNoted notes node) is h in (k.0, tt)

pub tail_noted : (notes : List Note) (node : ℕ) (fs : List EndedView) (f : EndedView) (rest : List EndedView) → fs ≡ f ∷ rest → AreNoted notes node fs
    → AreNoted notes node rest
tail_noted notes node fs f rest is h = let k : AreNoted notes node (f ∷ rest) = subst (AreNoted notes node) is h in k.1

-- the ending of an ask is logged as a node's or a stranger's
pub ending_logged : (notes : List Note) (node : ℕ) (f : EndedView) (number : ℕ) → ask_of node f.ticket notes ≡ Some number → (old new : List once.Fact)
    → new ≡ ending_fact (is_away number notes) number f.how ∷ old → AreEnded notes node (f ∷ []) old new
ending_logged notes node f number at old new is = (number, at, is)

pub nothing_left : {X : Type 0} (l : List X) → length l ≡ 0 → l ≡ []
nothing_left [] h = refl
nothing_left (x ∷ xs) h = absurd (omega arith)

-- The world.

-- a node keeps the entry, but for one that lets invoke IDs be used again, which may keep none
abbrev pub IsKeptSo : (reuse : Bool) → (after : Node) → Performed → Type 0
IsKeptSo false after p = IsKeptFor after p
IsKeptSo true after p = Unit {0}

-- so it is of what was performed for a stranger
abbrev pub AreKept : (reuse : Bool) → (nodes : List Node) → (after : Node) → Option Performed → Type 0
AreKept reuse nodes after None = Unit {0}
AreKept reuse nodes after (Some p) = IsOfNone nodes p.key.peer.link → IsKeptSo reuse after p

module _ (W overtake : ℕ) (n : Network) (r : IsReady W overtake n) where
  client_known : (i : ℕ) (p : Performed) → IsOfClient (world_of n) i p → HasClient n.journal i p
  client_known i p h = λ k there. (
    h.number,
    subst (λ (c : ℕ). newest (record { client = c; server = i; invoke_id = p.key.invoke_id }) n.journal.notes ≡ Some h.number)
        (r.apart h.client k p.key.peer.link (sym (r.linked h.client) ∙ h.link) there) h.noted,
  )

  clients_known : (reuse : Bool) (i : ℕ) (b : Node) (p : Option Performed) → AreOfPeerSo reuse (world_of n) i b p → HaveClient n.journal i p
  clients_known reuse i b None h = tt
  clients_known false i b (Some p) (inl h) = client_known i p h
  clients_known true i b (Some p) (inl h) = client_known i p h
  clients_known false i b (Some p) (inr h) = λ k there. absurd (h.stranger k (r.linked k ∙ there))
  clients_known true i b (Some p) (inr h) = λ k there. absurd (h k (r.linked k ∙ there))

  -- what was performed for a stranger is kept, but where invoke IDs are used again
  pub kept_known : (reuse : Bool) (i : ℕ) (b : Node) (p : Option Performed) → AreOfPeerSo reuse (world_of n) i b p → AreKept reuse n.nodes.items b p
  kept_known reuse i b None h = tt
  kept_known true i b (Some p) h = λ none. tt
  kept_known false i b (Some p) (inl h) = λ none. absurd (none h.client h.link)
  kept_known false i b (Some p) (inr h) = λ none. (h.entry, h.kept)

  pub can_be_entered : (reuse : Bool) (i : ℕ) (b : Node) (o : Outcome) → CanEnterSo reuse (world_of n) i b o → CanBeEntered n.journal i o
  can_be_entered reuse i b o h = record {
    nodes = n.nodes.items;
    linked = r.linked;
    sends = h.sends;
    ended = h.ended;
    performed = clients_known reuse i b o.performed h.performed;
  }

-- What was performed is logged.

logged_by : (reuse : Bool) (nodes : List Node) (notes : List Note) (i : ℕ) (b : Node) (p : Option Performed) (old new : List once.Fact)
    → AreKept reuse nodes b p → EntersLog nodes notes i b p old new → AreLoggedSo reuse nodes notes i b p old new
logged_by true nodes notes i b None old new kept h = h
logged_by false nodes notes i b None old new kept h = h
logged_by true nodes notes i b (Some p) old new kept (inl h) = inl h
logged_by false nodes notes i b (Some p) old new kept (inl h) = inl h
logged_by true nodes notes i b (Some p) old new kept (inr h) = inr h.served
logged_by false nodes notes i b (Some p) old new kept (inr h) = inr (h.kept (kept h.served.stranger))

pub acts_so : (reuse : Bool) (nodes nodes' : List Node) (j j' : JournalView) (log log' : List once.Fact) (i : ℕ) (b : Node) (o : Outcome)
    → IsWithNode nodes i b nodes' → IsEntered nodes i b o j j' log log' → AreKept reuse nodes b o.performed
    → time_at (instant j') ≡ time_at (instant j) → j'.notes ≡ j.notes → ActsSo reuse (world_with nodes j log) i b o (world_with nodes' j' log')
acts_so reuse nodes nodes' j j' log log' i b o with_node h kept time notes = record {
  nodes = with_node;
  time = time;
  lives = h.lives;
  notes = notes;
  sent = h.sent.sent;
  copies = h.sent.copies;
  copied = h.sent.copied;
  between = h.between;
  ended = h.ended;
  logged = logged_by reuse nodes j.notes i b o.performed h.between log' kept h.logged;
}

-- where it lets none be used again
pub acts_as : (nodes nodes' : List Node) (j j' : JournalView) (log log' : List once.Fact) (i : ℕ) (b : Node) (o : Outcome) → IsWithNode nodes i b nodes'
    → IsEntered nodes i b o j j' log log' → AreKept false nodes b o.performed → time_at (instant j') ≡ time_at (instant j) → j'.notes ≡ j.notes
    → Acts (world_with nodes j log) i b o (world_with nodes' j' log')
acts_as nodes nodes' j j' log log' i b o with_node h kept time notes = record {
  nodes = with_node;
  time = time;
  lives = h.lives;
  notes = notes;
  sent = h.sent.sent;
  copies = h.sent.copies;
  copied = h.sent.copied;
  between = h.between;
  ended = h.ended;
  logged = logged_by false nodes j.notes i b o.performed h.between log' kept h.logged;
}
