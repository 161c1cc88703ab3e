-- The order of peers is antisymmetric: peers that compare as equal are equal.
use Rattle.std.proofs.Common.{◌≡◌, ℕ, List, [], ◌∷◌, Option, Some, None, refl, ap, ◌∙◌, arith, Ordering, Less, Equal, Greater}
use Rattle.std.specs.Ordering.{nat_cmp, ordering_then}
use Rattle.std.specs.Option.{option_cmp}
use Rattle.std.specs.Cmp.Lexicographic.{slice_cmp}
use Rattle.std.proofs.lemmas.Bool.Decides.{nat_tests}
use Rattle.bac_npdu.specs.Peers.{RouteView, PeerView, route_cmp, peer_cmp}

both_equal : (r s : Ordering) → ordering_then r s ≡ Equal → (r ≡ Equal) × (s ≡ Equal)
both_equal Less s e = absurd cc
both_equal Equal s e = (refl, e)
both_equal Greater s e = absurd cc

numbers_equal : (x y : ℕ) → nat_cmp x y ≡ Equal → x ≡ y
numbers_equal x y e = grind (arith, nat_tests, e)

lists_equal : (xs ys : List ℕ) → slice_cmp nat_cmp xs ys ≡ Equal → xs ≡ ys
lists_equal [] [] e = refl
lists_equal [] (y ∷ ys) e = absurd cc
lists_equal (x ∷ xs) [] e = absurd cc
lists_equal (x ∷ xs) (y ∷ ys) e =
    let b = both_equal (nat_cmp x y) (slice_cmp nat_cmp xs ys) e in
    let first = numbers_equal x y b.0 in
    let rest = lists_equal xs ys b.1 in
    cc

routes_equal : (r s : RouteView) → route_cmp r s ≡ Equal → r ≡ s
routes_equal r s e =
    let b = both_equal (nat_cmp r.network s.network) (slice_cmp nat_cmp r.address s.address) e in
    let network = numbers_equal r.network s.network b.0 in
    let address = lists_equal r.address s.address b.1 in
    let at_network : ℕ → RouteView = λ n. record { network = n; address = r.address } in
    let at_address : List ℕ → RouteView = λ a. record { network = s.network; address = a } in
    ap at_network network ∙ ap at_address address

options_equal : (r s : Option RouteView) → option_cmp route_cmp r s ≡ Equal → r ≡ s
options_equal None None e = refl
options_equal None (Some s) e = absurd cc
options_equal (Some r) None e = absurd cc
options_equal (Some r) (Some s) e = ap Some (routes_equal r s e)

pub peers_equal : (p q : PeerView) → peer_cmp p q ≡ Equal → p ≡ q
peers_equal p q e =
    let b = both_equal (slice_cmp nat_cmp p.link q.link) (option_cmp route_cmp p.route q.route) e in
    let link = lists_equal p.link q.link b.0 in
    let route = options_equal p.route q.route b.1 in
    let at_link : List ℕ → PeerView = λ l. record { link = l; route = p.route } in
    let at_route : Option RouteView → PeerView = λ r. record { link = q.link; route = r } in
    ap at_link link ∙ ap at_route route
