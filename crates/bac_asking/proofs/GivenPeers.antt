-- The node that arguments name.
use Rattle.std.proofs.Common.{◌≡◌, List, ℕ, Option, Some, None, sym, subst, refl, ◌∙◌}
use Rattle.std.specs.Option.{option_map}
use Rattle.std.specs.Prelude.{IfSome, MatchOption, codes}
use Rattle.clap.specs.declared.parser.matches.ArgMatches.{ArgMatches}
use Rattle.bac_npdu.specs.Views.{route_view}
use Rattle.bac_npdu.specs.declared.route.Route.{Route}
use Rattle.bac_environment.specs.Given.{words_text}
use Rattle.bac_driver.specs.Udp.{LOCAL_HOST}
use Rattle.bac_environment.specs.Addresses.{IsLink, IsNoLink, IsRoute, link_of}
use Rattle.bac_asking.specs.Given.{IsLinkGiven, IsPortGiven, IsRouteBy}

inside : (a b : List ℕ) → Some a ≡ Some b → a ≡ b
inside a b e = cc

never : (a : List ℕ) → None ≡ Some a → ⊥
never a e = cc

pub link_given : (given : ArgMatches) (own : Option ℕ) (read : List ℕ) (r : Option (List ℕ)) → Some read ≡ words_text given (codes "to")
    → MatchOption r (IsNoLink read) (IsLink read) → IfSome r (IsLinkGiven given own)
link_given given own read None is told = tt
link_given given own read (Some link) is told =
    record {
      told = λ text same. subst (λ (t : List ℕ). IsLink t link) (inside read text (is ∙ same)) told;
      here = λ none. absurd (never read (sym none ∙ sym is));
    }

pub link_here : (given : ArgMatches) (own : Option ℕ) (port : ℕ) (link : List ℕ) → None ≡ words_text given (codes "to") → IsPortGiven given own port
    → link ≡ link_of LOCAL_HOST port → IsLinkGiven given own link
link_here given own port link is given_so at =
    record {
      told = λ text same. absurd (never text (is ∙ same));
      here = λ none. record { port = port; given_so = given_so; is = at };
    }

pub route_given : (given : ArgMatches) (read : List ℕ) (r : Route) → Some read ≡ words_text given (codes "route") → IsRoute read (route_view r)
    → IsRouteBy (words_text given (codes "route")) (option_map route_view (Some r))
route_given given read r is told = subst (λ (t : Option (List ℕ)). IsRouteBy t (Some (route_view r))) is told

pub no_route_given : (given : ArgMatches) → None ≡ words_text given (codes "route") → IsRouteBy (words_text given (codes "route")) (option_map route_view None)
no_route_given given is = subst (λ (t : Option (List ℕ)). IsRouteBy t None) is refl
