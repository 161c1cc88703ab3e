-- Copies that come one after the other.
use Rattle.std.proofs.Common.{◌≡◌, ℕ, List, [], ◌∷◌, ◌++◌, length, append_assoc, inl, inr, refl, sym, ap, subst, ◌∙◌, arith}
use Rattle.bac_protocol.specs.Service.{Octets}
use Rattle.bac_transaction.specs.Sends.{Datagram}
use Rattle.bac_world.specs.Node.{Node}
use Rattle.bac_world.specs.World.{Copy, Note, AreCopied}
use Rattle.bac_world.proofs.Pairs.{append_none}
use Rattle.bac_journal.specs.Growing.{BecomeCopies, CanBecome, CanGo}

pub none_become : (nodes : List Node) (now sender : ℕ) (copies : List Copy) → BecomeCopies nodes now sender [] copies copies
none_become nodes now sender copies = record { sent = []; copies = sym (append_none copies); copied = refl }

-- the copies of two lists, one list after the other
copied_join : (nodes : List Node) (now sender : ℕ) (ds es : List Datagram) (xs ys : List Copy) → AreCopied nodes now sender ds xs
    → AreCopied nodes now sender es ys → AreCopied nodes now sender (ds ++ es) (xs ++ ys)
copied_join nodes now sender [] es xs ys h k = subst (λ l. AreCopied nodes now sender es (l ++ ys)) (sym h) k
copied_join nodes now sender (d ∷ ds) es xs ys (inl h) k = inl (record {
  copy = h.copy;
  rest = h.rest ++ ys;
  is = ap (λ l. l ++ ys) h.is;
  copied = h.copied;
  others = copied_join nodes now sender ds es h.rest ys h.others k;
})
copied_join nodes now sender (d ∷ ds) es xs ys (inr h) k = inr (h.0, copied_join nodes now sender ds es xs ys h.1 k)

pub more_become : (nodes : List Node) (now sender : ℕ) (ds es : List Datagram) (a b c : List Copy) → BecomeCopies nodes now sender ds a b
    → BecomeCopies nodes now sender es b c → BecomeCopies nodes now sender (ds ++ es) a c
more_become nodes now sender ds es a b c h k = record {
  sent = h.sent ++ k.sent;
  copies = k.copies ∙ ap (λ l. l ++ k.sent) h.copies ∙ append_assoc a h.sent k.sent;
  copied = copied_join nodes now sender ds es h.sent k.sent h.copied k.copied;
}

pub head_goes : (links : List Octets) (notes : List Note) (now sender : ℕ) (ds : List Datagram) (d : Datagram) (rest : List Datagram) → ds ≡ d ∷ rest
    → CanGo links notes now sender ds → CanGo links notes now sender (d ∷ [])
head_goes links notes now sender ds d rest is h =
    let can : CanBecome h.nodes notes now sender (d ∷ rest) = subst (CanBecome h.nodes notes now sender) is h.can in
    record { nodes = h.nodes; linked = h.linked; can = (can.0, tt) }

pub tail_goes : (links : List Octets) (notes : List Note) (now sender : ℕ) (ds : List Datagram) (d : Datagram) (rest : List Datagram) → ds ≡ d ∷ rest
    → CanGo links notes now sender ds → CanGo links notes now sender rest
tail_goes links notes now sender ds d rest is h =
    let can : CanBecome h.nodes notes now sender (d ∷ rest) = subst (CanBecome h.nodes notes now sender) is h.can in
    record { nodes = h.nodes; linked = h.linked; can = can.1 }

pub nothing_left : {X : Type 0} (l : List X) → length l ≡ 0 → l ≡ []
nothing_left [] h = refl
nothing_left (x ∷ xs) h = absurd (omega arith)
