-- The invoke IDs of a peer stand side by side in the order of keys: what stands at the rank of one, and after one that is held the next.
use Rattle.std.proofs.Common.{◌≡◌, ℕ, ◌+◌, ◌≤◌, Bool, true, false, ◌&&◌, List, length, Option, Some, None, refl, ap, sym, subst, ◌∙◌, arith}
use Rattle.std.specs.Ordering.{nat_cmp, ordering_then, ordering_reverse}
use Rattle.std.specs.declared.cmp.Ordering.{Ordering}
use Rattle.std.specs.declared.cmp.Ordering.TheVariants.{Less, Equal, Greater}
use Rattle.std.proofs.lemmas.Bool.Decides.{nat_tests}
use Rattle.std.proofs.lemmas.Cmp.{tied_itself}
use Rattle.std.proofs.lemmas.List.Sums.{count_by-le-length}
use Rattle.bac_npdu.specs.Peers.{PeerView, peer_cmp, peer_cmp_total}
use Rattle.bac_npdu.specs.Views.{peer_view}
use Rattle.bac_npdu.specs.declared.peer.Peer.{Peer}
use Rattle.bac_slots.specs.declared.slot.Slot.{Slot}
use Rattle.bac_slots.specs.Slots.{IsDistinct, is_less, nth_by_key, rank, value_at}
use Rattle.bac_transaction.specs.Ends.{Client, is_held, is_held_there, is_id_held}
use Rattle.bac_transaction.specs.Keys as keys
use Rattle.bac_transaction.specs.Views.{code_key_cmp, code_same_key, peer_key_view, slots_view}
use Rattle.bac_transaction.specs.declared.peer_key.PeerKey.{PeerKey}
use Rattle.bac_requester.proofs.Accepting.{id_held}

abbrev Slots : Type 0
Slots = List (Slot PeerKey Client)

abbrev pub key_at : Peer → ℕ → PeerKey
key_at peer n = record { peer = peer; invoke_id = n }

next_less : (peer : PeerView) (n : ℕ) → ordering_then (peer_cmp peer peer) (nat_cmp n (n + 1)) ≡ Less
next_less peer n =
    let less : nat_cmp n (n + 1) ≡ Less = grind (arith, nat_tests) in
    ap (λ o. ordering_then o (nat_cmp n (n + 1))) (tied_itself peer_cmp_total peer) ∙ less

none_between : (peer : PeerView) (n : ℕ) (k : keys.PeerKey) → ordering_then (peer_cmp peer k.peer) (nat_cmp n k.invoke_id) ≡ Less
    → ordering_then (peer_cmp k.peer peer) (nat_cmp k.invoke_id (n + 1)) ≡ Less → ⊥
none_between peer n k before after =
    go (peer_cmp peer k.peer) before
    (subst (λ o. ordering_then o (nat_cmp k.invoke_id (n + 1)) ≡ Less) (peer_cmp_total.antisymm k.peer peer) after)
  where
    go : (o : Ordering) → ordering_then o (nat_cmp n k.invoke_id) ≡ Less → ordering_then (ordering_reverse o) (nat_cmp k.invoke_id (n + 1)) ≡ Less → ⊥
    go Less before after = absurd cc
    go Equal before after = grind (arith, nat_tests, before, after)
    go Greater before after = absurd cc

-- the laws of bac_slots that the code calls

abbrev pub IsThere : Type 0
IsThere = (slots : Slots) (key : PeerKey) (n : ℕ) (s : Slot PeerKey Client) → IsDistinct code_same_key slots → nth_by_key code_key_cmp n slots ≡ Some s
    → code_same_key s.key key ≡ true → value_at code_same_key key slots ≡ Some s.value

abbrev pub IsOther : Type 0
IsOther = (slots : Slots) (key : PeerKey) (s : Slot PeerKey Client) → IsDistinct code_same_key slots
    → nth_by_key code_key_cmp (rank code_key_cmp key slots) slots ≡ Some s → code_same_key s.key key ≡ false → value_at code_same_key key slots ≡ None

abbrev pub IsPast : Type 0
IsPast = (slots : Slots) (key : PeerKey) → IsDistinct code_same_key slots → nth_by_key code_key_cmp (rank code_key_cmp key slots) slots ≡ None
    → value_at code_same_key key slots ≡ None

abbrev pub HasNext : Type 0
HasNext = (slots : Slots) (key after : PeerKey) (v : Client) → IsDistinct code_same_key slots → value_at code_same_key key slots ≡ Some v
    → code_key_cmp key after ≡ Less → ((k : PeerKey) → code_key_cmp key k ≡ Less → code_key_cmp k after ≡ Less → ⊥)
    → rank code_key_cmp after slots ≡ rank code_key_cmp key slots + 1

-- what is held is there
there : (now : ℕ) (o : Option Client) → is_held_there now o ≡ true → (v : Client) × (o ≡ Some v)
there now None h = absurd cc
there now (Some v) h = (v, refl)

module _ (now : ℕ) (peer : Peer) (slots : Slots) (d : IsDistinct code_same_key slots) (n place : ℕ) (is : place ≡ rank code_key_cmp (key_at peer n) slots) where
  -- a slot stands at that place
  pub stands : (here : IsThere) (other : IsOther) (s : Slot PeerKey Client) (b : Bool) → nth_by_key code_key_cmp place slots ≡ Some s
      → b ≡ (code_same_key s.key (key_at peer n) && is_held now s.value.held) → b ≡ is_id_held now (slots_view slots) (peer_view peer) n
  stands here other s b at e = e ∙ go (code_same_key s.key (key_at peer n)) refl
    where
      go : (same : Bool) → code_same_key s.key (key_at peer n) ≡ same
          → (same && is_held now s.value.held) ≡ is_id_held now (slots_view slots) (peer_view peer) n
      go true f = id_held now (key_at peer n) slots (Some s.value) (here slots (key_at peer n) place s d at f)
      go false f =
          id_held now (key_at peer n) slots None
          (other slots (key_at peer n) s d (subst (λ (k : ℕ). nth_by_key code_key_cmp k slots ≡ Some s) is at) f)

  -- none does
  pub stands_none : (past : IsPast) → nth_by_key code_key_cmp place slots ≡ None → false ≡ is_id_held now (slots_view slots) (peer_view peer) n
  stands_none past at =
      id_held now (key_at peer n) slots None
      (past slots (key_at peer n) d (subst (λ (k : ℕ). nth_by_key code_key_cmp k slots ≡ None) is at))

  -- after an invoke ID that is held comes the place of the next
  pub next_place : (law : HasNext) → is_id_held now (slots_view slots) (peer_view peer) n ≡ true → place + 1 ≡ rank code_key_cmp (key_at peer (n + 1)) slots
  next_place law held =
      let found = there now (value_at code_same_key (key_at peer n) slots)
      (id_held now (key_at peer n) slots (value_at code_same_key (key_at peer n) slots) refl ∙ held) in
      ap (λ m. m + 1) is
      ∙ sym (law slots (key_at peer n) (key_at peer (n + 1)) found.0 d found.1 (next_less (peer_view peer) n)
      (λ k before after. none_between (peer_view peer) n (peer_key_view k) before after))

pub rank_within : (key : PeerKey) (slots : Slots) → rank code_key_cmp key slots ≤ length slots
rank_within key slots = count_by-le-length (λ (s : Slot PeerKey Client). is_less (code_key_cmp s.key key)) slots
