-- What two worlds in code are to contracts, from their parts.
use Rattle.std.proofs.Common.{◌≡◌, ℕ, suc, Bool, List, [], ◌∷◌, map, None, Some, slice_get, refl, sym, ap, ◌∙◌}
use Rattle.std.proofs.lemmas.List.{map-id, reverse-reverse}
use Rattle.std.specs.Prelude.{reverse}
use Rattle.bac_protocol.specs.Service.{Octets}
use Rattle.bac_store.specs.Stores.{Store}
use Rattle.bac_world.specs.Node.{Node}
use Rattle.bac_world.specs.World.{link_at}
use Rattle.bac_journal.specs.Journals.{AreSame}
use Rattle.bac_journal.specs.Views.{AreLinks}
use Rattle.bac_network.specs.Histories.{WorldView, view_of}
use Rattle.bac_network.specs.Views.{fact_view}
use Rattle.bac_network.specs.declared.network.Network.{Network}

-- Lists are one where they are so at each place.
same_places : {A : Type 0} (xs ys : List A) → ((i : ℕ) → slice_get xs i ≡ slice_get ys i) → xs ≡ ys
same_places [] [] each = refl
same_places [] (y ∷ ys) each = absurd (let clash : None ≡ Some y = each 0 in cc)
same_places (x ∷ xs) [] each = absurd (let clash : Some x ≡ None = each 0 in cc)
same_places (x ∷ xs) (y ∷ ys) each =
    let first : Some x ≡ Some y = each 0 in
    let here : x ≡ y = cc in
    let rest = same_places xs ys (λ i. each (suc i)) in
    λ i. here i ∷ rest i

-- The same nodes have the same links.
same_links : (ones others : List Node) (links ways : List Octets) → ones ≡ others → AreLinks ones links → AreLinks others ways → links ≡ ways
same_links ones others links ways same a b =
    same_places links ways (λ i. sym (a i) ∙ ap (λ (nodes : List Node). link_at nodes i) same ∙ b i)

-- The same parts make the same world.
pub worlds_alike : (v w : ℕ) (opening stores : List Store) (a b : List Bool) (one other : Network) → v ≡ w
    → map (λ (s : Store). s) opening ≡ map (λ (s : Store). s) stores → map (λ (s : Bool). s) a ≡ map (λ (s : Bool). s) b
    → map (λ (a : Node). a) one.nodes.items ≡ map (λ (a : Node). a) other.nodes.items → map fact_view one.log.items ≡ map fact_view other.log.items
    → AreSame one.journal other.journal → view_of v opening a one ≡ view_of w stores b other
worlds_alike v w opening stores a b one other limit opened rules nodes log journal =
    let reuses : a ≡ b = sym (map-id a) ∙ rules ∙ map-id b in
    let before : opening ≡ stores = sym (map-id opening) ∙ opened ∙ map-id stores in
    let now : one.nodes.items ≡ other.nodes.items = sym (map-id one.nodes.items) ∙ nodes ∙ map-id other.nodes.items in
    λ i. record {
      overtake = limit i;
      opening = before i;
      reuses = reuses i;
      nodes = now i;
      time = record { moment = journal.moment i; own = journal.own i };
      lives = journal.lives i;
      copies = journal.copies i;
      log = reverse (log i);
      notes = journal.notes i;
    }

-- The same world has the same parts.

pub same_openings : (one other : WorldView) → one ≡ other → map (λ (s : Store). s) one.opening ≡ map (λ (s : Store). s) other.opening
same_openings one other same = ap (λ (w : WorldView). map (λ (s : Store). s) w.opening) same

pub same_rules : (one other : WorldView) → one ≡ other → map (λ (s : Bool). s) one.reuses ≡ map (λ (s : Bool). s) other.reuses
same_rules one other same = ap (λ (w : WorldView). map (λ (s : Bool). s) w.reuses) same

pub same_nodes : (one other : WorldView) → one ≡ other → map (λ (a : Node). a) one.nodes ≡ map (λ (a : Node). a) other.nodes
same_nodes one other same = ap (λ (w : WorldView). map (λ (a : Node). a) w.nodes) same

pub same_facts : (v w : ℕ) (opening stores : List Store) (a b : List Bool) (one other : Network) → view_of v opening a one ≡ view_of w stores b other
    → map fact_view one.log.items ≡ map fact_view other.log.items
same_facts v w opening stores a b one other same =
    sym (reverse-reverse (map fact_view one.log.items)) ∙ ap (λ (w : WorldView). reverse w.log) same ∙ reverse-reverse (map fact_view other.log.items)

pub same_journals : (v w : ℕ) (opening stores : List Store) (rules ways : List Bool) (one other : Network) → AreLinks one.nodes.items one.journal.links
    → AreLinks other.nodes.items other.journal.links → view_of v opening rules one ≡ view_of w stores ways other
    → AreSame one.journal other.journal
same_journals v w opening stores rules ways one other a b same =
    record {
      links = same_links one.nodes.items other.nodes.items one.journal.links other.journal.links (ap (λ (w : WorldView). w.nodes) same) a b;
      moment = ap (λ (w : WorldView). w.time.moment) same;
      own = ap (λ (w : WorldView). w.time.own) same;
      lives = ap (λ (w : WorldView). w.lives) same;
      copies = ap (λ (w : WorldView). w.copies) same;
      notes = ap (λ (w : WorldView). w.notes) same;
    }
