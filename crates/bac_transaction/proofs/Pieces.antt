-- The pieces of a transfer: each is short, and one more is sent.
use Rattle.std.proofs.Common.{◌≡◌, ℕ, zero, suc, ◌+◌, ◌-◌, ◌<◌, ◌≤◌, Bool, true, false, List, [], ◌∷◌, ◌++◌, length, nat_lt, refl, ap, sym, subst, ◌∙◌, arith}
use Rattle.std.proofs.lemmas.Bool.Decides.{nat_tests}
use Rattle.bac_apdu.specs.Apdu.{Apdu}
use Rattle.bac_npdu.specs.Peers.{PeerView}
use Rattle.bac_segment.specs.Pieces.{ArePieces, piece_at}
use Rattle.bac_segment.specs.Window.{Outgoing}
use Rattle.bac_protocol.specs.Wire.{pieces_from}
use Rattle.bac_transaction.specs.Segments.{ArePiecesShort}
use Rattle.bac_transaction.specs.Sends.{Datagram, Pairwise, Send, IsSent, to_all, to_peer}

-- some octets have a piece
pub some_piece : (size : ℕ) (octets : List ℕ) (pieces : List (List ℕ)) → ArePieces size octets pieces → 0 < length octets → 0 < length pieces
some_piece size octets [] are some = let e : [] ≡ octets = are.joined in let k = ap length e in absurd (omega arith)
some_piece size octets (p ∷ pieces) are some = omega arith

after_last : (n : ℕ) (pieces : List (List ℕ)) → length pieces ≤ n → piece_at pieces n ≡ []
after_last n [] le = refl
after_last zero (p ∷ pieces) le = absurd (omega arith)
after_last (suc n) (p ∷ pieces) le = after_last n pieces (omega arith)

-- pieces of one size are no longer than that
pub pieces_short : (most size : ℕ) (octets : List ℕ) (out : Outgoing) → ArePieces size octets out.pieces → size ≤ most → ArePiecesShort most out
pieces_short most size octets out are le = record { each = λ n. go n (nat_lt n (length out.pieces)) refl }
  where
    go : (n : ℕ) (b : Bool) → nat_lt n (length out.pieces) ≡ b → length (piece_at out.pieces n) ≤ most
    go n true e = let lt : n < length out.pieces = grind (arith, nat_tests) in omega (arith, are.no_longer n lt, le)
    go n false e = let ge : length out.pieces ≤ n = grind (arith, nat_tests) in let is = ap length (after_last n out.pieces ge) in omega arith

pub pairwise_put : {A B : Type 0} (R : A → B → Type 0) (xs : List A) (ys : List B) (x : A) (y : B) → Pairwise R xs ys → R x y
    → Pairwise R (xs ++ x ∷ []) (ys ++ y ∷ [])
pairwise_put R [] [] x y p r = (r, tt)
pairwise_put R [] (b ∷ ys) x y p r = absurd p
pairwise_put R (a ∷ xs) [] x y p r = absurd p
pairwise_put R (a ∷ xs) (b ∷ ys) x y p r = (p.0, pairwise_put R xs ys x y p.1 r)

to_all_put : (peer : PeerView) (xs : List Apdu) (a : Apdu) → to_all peer (xs ++ a ∷ []) ≡ to_all peer xs ++ to_peer peer a ∷ []
to_all_put peer [] a = refl
to_all_put peer (x ∷ xs) a = ap (λ l. to_peer peer x ∷ l) (to_all_put peer xs a)

-- one more datagram is sent
pub one_more_sent : (peer : PeerView) (xs : List Apdu) (ys : List Datagram) (a : Apdu) (d : Datagram) → Pairwise IsSent (to_all peer xs) ys
    → IsSent (to_peer peer a) d → Pairwise IsSent (to_all peer (xs ++ a ∷ [])) (ys ++ d ∷ [])
one_more_sent peer xs ys a d p r =
    subst (λ (l : List Send). Pairwise IsSent l (ys ++ d ∷ [])) (sym (to_all_put peer xs a)) (pairwise_put IsSent (to_all peer xs) ys (to_peer peer a) d p r)

pieces_from-put : (piece : ℕ → Apdu) (a n : ℕ) → pieces_from piece a (suc n) ≡ pieces_from piece a n ++ piece (a + n) ∷ []
pieces_from-put piece a zero = ap (λ k. piece k ∷ []) (let e : a ≡ a + 0 = omega arith in e)
pieces_from-put piece a (suc n) =
    ap (λ l. piece a ∷ l) (pieces_from-put piece (a + 1) n
    ∙ ap (λ k. pieces_from piece (a + 1) n ++ piece k ∷ []) (let e : a + 1 + n ≡ a + suc n = omega arith in e))

-- after the pieces from a up to n, piece n
pub one_more_piece : (peer : PeerView) (piece : ℕ → Apdu) (a n : ℕ) (sends more : List Datagram) (x : Apdu) (d : Datagram) → a ≤ n
    → Pairwise IsSent (to_all peer (pieces_from piece a (n - a))) sends → IsSent (to_peer peer x) d → x ≡ piece n → more ≡ sends ++ d ∷ []
    → Pairwise IsSent (to_all peer (pieces_from piece a (n + 1 - a))) more
one_more_piece peer piece a n sends more x d le sent one is all =
    let count : n + 1 - a ≡ suc (n - a) = omega arith in
    let last : a + (n - a) ≡ n = omega arith in
    let xs : List Apdu = pieces_from piece a (n - a) in
    let eq : pieces_from piece a (n + 1 - a) ≡ xs ++ x ∷ [] =
    ap (λ k. pieces_from piece a k) count ∙ pieces_from-put piece a (n - a) ∙ ap (λ k. xs ++ piece k ∷ []) last ∙ ap (λ y. xs ++ y ∷ []) (sym is) in
    subst (λ (l : List Apdu). Pairwise IsSent (to_all peer l) more) (sym eq)
    (subst (λ (l : List Datagram). Pairwise IsSent (to_all peer (xs ++ x ∷ [])) l) (sym all) (one_more_sent peer xs sends x d sent one))
