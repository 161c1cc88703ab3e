-- What a datagram becomes.
use Rattle.std.proofs.Common.{◌≡◌, ℕ, ◌<◌, List, [], ◌∷◌, length, Some, slice_get, slice_index_or, ◌++◌, inl, inr, refl, sym, ap, subst, ◌∙◌}
use Rattle.std.proofs.lemmas.Option.{slice_get-get_or, get_or_from_slice_get}
use Rattle.bac_apdu.specs.Apdu.{Apdu}
use Rattle.bac_apdu.specs.Spelling.{SpellsApdu}
use Rattle.bac_npdu.specs.Datagram.{Means}
use Rattle.bac_npdu.specs.Peers.{PeerView}
use Rattle.bac_protocol.specs.Service.{Octets}
use Rattle.bac_protocol.specs.Transaction.{Key}
use Rattle.bac_transaction.specs.Sends.{Datagram}
use Rattle.bac_world.specs.Laws.{IsMeaningless}
use Rattle.bac_world.specs.Node.{Node}
use Rattle.bac_world.specs.World as world
use Rattle.bac_world.specs.World.{Note, link_at, transaction_of, IsCopied, IsOfNone}
use Rattle.bac_journal.specs.declared.asks.Cell.{Cell}
use Rattle.bac_journal.specs.declared.asks.Row.{Row}
use Rattle.bac_journal.specs.declared.copies.Copy.{Copy}
use Rattle.bac_journal.specs.Entering.{CanLeave}
use Rattle.bac_journal.specs.Growing.{BecomeCopies, CanBecome, CanGo}
use Rattle.bac_world.proofs.Pairs.{append_none}
use Rattle.bac_journal.specs.Index.{cell_at}
use Rattle.bac_journal.specs.Records.{IsKept}
use Rattle.bac_journal.specs.Views.{key_view, copy_view, AreLinks}
use Rattle.bac_journal.proofs.Index.{has_cell}

-- a datagram that becomes a copy means something
pub becomes_nothing : (nodes : List Node) (links : List Octets) → AreLinks nodes links → (now sender : ℕ) (e : Octets) (d : Datagram) (octets : Octets)
    → octets ≡ d.octets → IsMeaningless (slice_index_or links sender e) octets → (c : world.Copy) → IsCopied nodes now sender d c → ⊥
becomes_nothing nodes links linked now sender e d octets same none c k =
    let t = k.transaction in
    let at : slice_get links sender ≡ Some t.link = sym (linked sender) ∙ ap (link_at nodes) (sym k.from) ∙ t.sender in
    let from : slice_index_or links sender e ≡ t.link = get_or_from_slice_get links sender t.link e at in
    none t.peer t.apdu (subst (λ (l : Octets). Means SpellsApdu l octets t.peer t.apdu) (sym from)
    (subst (λ (o : Octets). Means SpellsApdu t.link o t.peer t.apdu) (k.octets ∙ sym same) t.means))

-- it becomes this copy
pub becomes_copy : (nodes : List Node) (links : List Octets) → AreLinks nodes links → (now sender to : ℕ) (e : Octets) (d : Datagram) (key : Key)
    (octets taken : Octets) → sender < length links → slice_get links to ≡ Some d.to → octets ≡ d.octets → taken ≡ d.octets → (apdu : Apdu)
    → (peer : PeerView) × Means SpellsApdu (slice_index_or links sender e) octets peer apdu → key ≡ transaction_of sender to apdu
    → IsCopied nodes now sender d (record { moment = now; from = sender; to = to; key = key; octets = taken })
becomes_copy nodes links linked now sender to e d key octets taken within at same took apdu means is = record {
  moment = refl;
  from = refl;
  to = linked to ∙ at;
  octets = took;
  transaction = record {
    link = slice_index_or links sender e;
    sender = linked sender ∙ slice_get-get_or links sender e within;
    peer = means.0;
    apdu = apdu;
    means = subst (λ (o : Octets). Means SpellsApdu (slice_index_or links sender e) o means.0 apdu) (same ∙ sym took) means.1;
    key = is;
  };
}

-- its transaction has a cell
pub copied_cell : (nodes : List Node) (links : List Octets) → AreLinks nodes links → (rows : List Row) (copies : List Copy) (notes : List Note)
    → IsKept rows copies notes → (now sender : ℕ) (d : Datagram) → CanBecome nodes notes now sender (d ∷ []) → (c : Copy)
    → IsCopied nodes now sender d (copy_view c) → c.transaction.invoke_id < 256 → (k : Cell) × (cell_at rows (key_view c.transaction) ≡ Some k)
copied_cell nodes links linked rows copies notes h now sender d can c k fits = go can.0
  where
    go : CanLeave nodes notes now sender d → (k : Cell) × (cell_at rows (key_view c.transaction) ≡ Some k)
    go (inl copied) = has_cell rows copies notes h (key_view c.transaction) fits (copied.asked (copy_view c) k)
    go (inr stranger) = absurd (stranger (copy_view c).to k.to)

-- one that becomes no copy goes to a stranger
pub copied_none : (links : List Octets) (notes : List Note) (now sender : ℕ) (d : Datagram) → CanGo links notes now sender (d ∷ [])
    → ((nodes : List Node) → AreLinks nodes links → (c : world.Copy) → IsCopied nodes now sender d c → ⊥) → (nodes : List Node) → AreLinks nodes links
    → IsOfNone nodes d.to
copied_none links notes now sender d can none nodes linked = go can.can.0
  where
    go : CanLeave can.nodes notes now sender d → IsOfNone nodes d.to
    go (inl copied) = absurd (none can.nodes can.linked copied.copy copied.is)
    go (inr stranger) = λ j at. stranger j (can.linked j ∙ sym (linked j) ∙ at)

pub one_becomes : (nodes : List Node) (now sender : ℕ) (d : Datagram) (c : world.Copy) (old new : List world.Copy) → IsCopied nodes now sender d c
    → new ≡ old ++ c ∷ [] → BecomeCopies nodes now sender (d ∷ []) old new
one_becomes nodes now sender d c old new k is = record {
  sent = c ∷ [];
  copies = is;
  copied = inl (record { copy = c; rest = []; is = refl; copied = k; others = refl });
}

pub none_becomes : (nodes : List Node) (now sender : ℕ) (d : Datagram) (copies : List world.Copy) → IsOfNone nodes d.to
    → BecomeCopies nodes now sender (d ∷ []) copies copies
none_becomes nodes now sender d copies stranger = record { sent = []; copies = sym (append_none copies); copied = inr (stranger, refl) }
