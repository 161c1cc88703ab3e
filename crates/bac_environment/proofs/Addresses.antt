-- Words that are addresses, or none.
use Rattle.std.proofs.Common.{◌≡◌, ◌⊎◌, ◌↔◌, ℕ, Bool, true, false, List, Option, Some, None, refl, sym, ap, subst, ◌∙◌, arith, inl, inr}
use Rattle.std.specs.List.{after_first, before_first}
use Rattle.std.specs.Prelude.{IfSome, IsSome, IsTrue, MatchOption}
use Rattle.bac_npdu.specs.Peers.{RouteView, route_fits}
use Rattle.bac_npdu.specs.Views.{route_view}
use Rattle.bac_npdu.specs.declared.route.Route.{Route}
use Rattle.bac_environment.proofs.Numerals.{one_number}
use Rattle.bac_environment.specs.Addresses.{AreOctets, IsCut, IsEnd, IsHost, IsLink, IsNoEnd, IsNoHost, IsNoLink, IsNoNumber, IsNoPeer, IsNoPort, IsNoRoute, IsNoWay, IsNumber, IsPeer, IsPort, IsRoute, IsWay, has_octet, is_colon, is_of_node, is_slash, link_of, port_or_own}

-- ---- ports

pub no_number_no_port : (text : List ℕ) → IsNoNumber 16 text → IsNoPort text
no_number_no_port text none = λ port is. none port is.number

pub zero_no_port : (text : List ℕ) (number : ℕ) → IsNumber 16 text number → number ≡ 0 → IsNoPort text
zero_no_port text number is none = λ port o. absurd (omega (arith, o.some, o.number.is, is.is, none))

pub some_port : (text : List ℕ) (number : ℕ) → IsNumber 16 text number → (number ≡ 0 → ⊥) → IsPort text number
some_port text number is some = record { number = is; some = omega (arith, some) }

both_ways : (b : Bool) → b ≡ true → b ≡ false → ⊥
both_ways true holds missing = absurd cc
both_ways false holds missing = absurd cc

-- ---- ends

pub no_host_there : (host port : List ℕ) → IsNoHost host → IsNoHost host ⊎ IsNoPort port
no_host_there host port none = inl none

pub no_port_there : (host port : List ℕ) → IsNoPort port → IsNoHost host ⊎ IsNoPort port
no_port_there host port none = inr none

pub end_alone : (text host : List ℕ) → has_octet is_colon text ≡ false → IsHost text host → IsEnd text host None
end_alone text host missing is = (missing, is)

pub end_with_port : (text front back host : List ℕ) (port : ℕ) → IsCut is_colon text front back → IsHost front host → IsPort back port
    → IsEnd text host (Some port)
end_with_port text front back host port cut is_host is_port =
    (cut.there, (subst (λ (t : List ℕ). IsHost t host) cut.front_is is_host, subst (λ (t : List ℕ). IsPort t port) cut.back_is is_port))

pub no_host_alone : (text : List ℕ) → has_octet is_colon text ≡ false → IsNoHost text → IsNoEnd text
no_host_alone text missing none host None end = none end.1.0 end.1.1
no_host_alone text missing none host (Some port) end = both_ways (has_octet is_colon text) end.0 missing

pub no_parts_no_end : (text front back : List ℕ) → IsCut is_colon text front back → IsNoHost front ⊎ IsNoPort back → IsNoEnd text
no_parts_no_end text front back cut none host None end = both_ways (has_octet is_colon text) cut.there end.0
no_parts_no_end text front back cut (inl none) host (Some port) end =
    subst (λ (t : List ℕ). IsNoHost t) cut.front_is none end.1.0.0 end.1.0.1
no_parts_no_end text front back cut (inr none) host (Some port) end = subst (λ (t : List ℕ). IsNoPort t) cut.back_is none port end.1.1

-- ---- links

pub no_end_no_link : (text : List ℕ) → IsNoEnd text → IsNoLink text
no_end_no_link text none = inl none

pub of_none_no_link : (text host : List ℕ) (port : Option ℕ) → IsEnd text host port → is_of_node host ≡ false → IsNoLink text
of_none_no_link text host port end missing = inr (record { host = host; port = port; end = end; of_none = missing })

pub link_of_end : (text host link : List ℕ) (port : Option ℕ) (number : ℕ) → IsEnd text host port → is_of_node host ≡ true → number ≡ port_or_own port
    → link ≡ link_of host number → IsLink text link
link_of_end text host link port number end holds is made =
    record { host = host; port = port; end = end; of_node = holds; is = made ∙ ap (link_of host) is }

-- ---- ways on

pub no_number_no_way : (network digits : List ℕ) → IsNoNumber 16 network → IsNoWay network digits
no_number_no_way network digits none = λ r way. none r.network way.number

pub no_octets_no_way : (network digits : List ℕ) → ((octets : List ℕ) → AreOctets digits octets → ⊥) → IsNoWay network digits
no_octets_no_way network digits none = λ r way. none r.address way.address

same_octets : (digits a b : List ℕ) → AreOctets digits a → AreOctets digits b → a ≡ b
same_octets digits a b one other = let is : Some a ≡ Some b = sym one.is ∙ other.is in cc

abbrev way_at : ℕ → List ℕ → RouteView
way_at number octets = record { network = number; address = octets }

-- the way that is made of them is the one that they are, if it is one
pub way_told : (network digits octets : List ℕ) (number : ℕ) (r : Option Route) → IsNumber 16 network number → AreOctets digits octets
    → (IsSome r ↔ IsTrue (route_fits (record { network = number; address = octets })))
    → IfSome r (λ x. route_view x ≡ record { network = number; address = octets })
    → MatchOption r (IsNoWay network digits) (λ x. IsWay network digits (route_view x))
way_told network digits octets number None is are some parts = λ way told.
    let same : way_at way.network way.address ≡ way_at number octets =
    ap (λ (n : ℕ). way_at n way.address) (one_number 16 network way.network number told.number is)
    ∙ ap (λ (o : List ℕ). way_at number o) (same_octets digits way.address octets told.address are) in
    let fits : IsTrue (route_fits (way_at number octets)) = subst (λ (w : RouteView). IsTrue (route_fits w)) same told.fits in
    absurd (cc (some.1 fits))
way_told network digits octets number (Some r) is are some parts =
    subst (λ (w : RouteView). IsWay network digits w) (sym parts) (record { number = is; address = are; fits = some.0 refl })

pub no_colon_no_route : (text : List ℕ) → has_octet is_colon text ≡ false → IsNoRoute text
no_colon_no_route text missing = λ r route. both_ways (has_octet is_colon text) route.colon missing

pub route_told : (text front back : List ℕ) (r : Option Route) → IsCut is_colon text front back
    → MatchOption r (IsNoWay front back) (λ x. IsWay front back (route_view x)) → MatchOption r (IsNoRoute text) (λ x. IsRoute text (route_view x))
route_told text front back None cut none = λ way route.
    none way (subst (λ (t : List ℕ). IsWay t back way) (sym cut.front_is)
    (subst (λ (t : List ℕ). IsWay (before_first is_colon text) t way) (sym cut.back_is) route.way))
route_told text front back (Some r) cut way =
    record {
      colon = cut.there;
      way =
          subst (λ (t : List ℕ). IsWay t (after_first is_colon text) (route_view r)) cut.front_is
          (subst (λ (t : List ℕ). IsWay front t (route_view r)) cut.back_is way);
    }

-- ---- peers

pub peer_alone : (text link : List ℕ) → has_octet is_slash text ≡ false → IsLink text link → IsPeer text (record { link = link; route = None })
peer_alone text link missing is = (missing, is)

pub peer_behind : (text front back link : List ℕ) (r : RouteView) → IsCut is_slash text front back → IsLink front link → IsRoute back r
    → IsPeer text (record { link = link; route = Some r })
peer_behind text front back link r cut is way =
    (cut.there, (subst (λ (t : List ℕ). IsLink t link) cut.front_is is, subst (λ (t : List ℕ). IsRoute t r) cut.back_is way))

pub no_peer_alone : (text : List ℕ) → has_octet is_slash text ≡ false → IsNoLink text → IsNoPeer text
no_peer_alone text missing none = inl (missing, none)

pub no_peer_link : (text front back : List ℕ) → IsCut is_slash text front back → IsNoLink front → IsNoPeer text
no_peer_link text front back cut none = inr (cut.there, inl (subst (λ (t : List ℕ). IsNoLink t) cut.front_is none))

pub no_peer_way : (text front back : List ℕ) → IsCut is_slash text front back → IsNoRoute back → IsNoPeer text
no_peer_way text front back cut none = inr (cut.there, inr (subst (λ (t : List ℕ). IsNoRoute t) cut.back_is none))
