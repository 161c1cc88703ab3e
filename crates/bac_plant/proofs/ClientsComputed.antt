-- The two clients are computed.
use Rattle.std.proofs.Common.{◌≡◌, ℕ, ◌+◌, ◌*◌, ◌%◌, ◌<◌, ◌≤◌, List, [], ◌∷◌, Some, refl, sym, ap, ◌∙◌, inl, inr, arith}
use Rattle.bac_pairs.specs.Keys.{keyed, shuffled}
use Rattle.bac_pairs.specs.Pairs.{port_at, port_by, share_at, share_end}
use Rattle.bac_protocol.specs.Pace.{most}
use Rattle.bac_plant.specs.Clients.{Client, IsAskedEarly, IsOneOf, KeepsTime, Port, StartsThere, port_taken}
use Rattle.bac_plant.specs.ClientsExample.{AT, HOSTS, ONE, OTHER, PORT, TwoClients}
use Rattle.bac_pairs.proofs.Ports.{comes_late}

-- the share of the other one has the same place
same_port : (key : List ℕ) → port_at key 80000000 ≡ port_at key 245895000
same_port key =
    ap (λ (r : ℕ). port_by (shuffled (keyed key 3) (shuffled (keyed key 2) (shuffled (keyed key 1) (shuffled (keyed key 0) r))))) same_rest
  where
    same_rest : share_at 80000000 % 25921 ≡ share_at 245895000 % 25921
    same_rest = omega arith

pub keeps_time : KeepsTime 1 (λ moment. moment * 1000)
keeps_time = record { on = λ one other l. omega (arith, l); gains = λ one other l within. omega (arith, l) }

module _ (key : List ℕ) (port : ℕ) (is : port_at key 80000000 ≡ port) where
  same_some : (a b : Port) → Some a ≡ Some b → a ≡ b
  same_some a b e = cc

  no_more : IsAskedEarly (HOSTS key port) (ONE ∷ []) (AT 110007) (PORT port) → ⊥
  unfolding most
  no_more a = go a.one_of
    where
      go : IsOneOf a.client (ONE ∷ []) → ⊥
      go (inl e) =
          let took : a.client.took ≡ 80000000 = ap (λ (c : Client). c.took) e in
          let end : share_end a.client.took ≡ share_end 80000000 = ap (λ (t : ℕ). share_end t) took in
          let in_share = a.early.in_share in
          let soon : 110007 ≤ a.early.moment + 30000 = a.early.soon in
          omega (arith, end, in_share, soon)
      go (inr none) = none

  in_turn : (c : Client) → IsOneOf c (ONE ∷ []) → share_at c.took < share_at OTHER.took
  in_turn c (inl e) = let one : share_at c.took ≡ share_at 80000000 = ap (λ (d : Client). share_at d.took) e in omega (arith, one)
  in_turn c (inr none) = absurd none

  too_early : (took : ℕ) → StartsThere (HOSTS key port) (ONE ∷ []) (AT 180000) 0 (record { host = 0; took = took }) → ⊥
  too_early took s =
      let same : PORT port ≡ port_taken (HOSTS key port) (record { host = 0; took = took }) = same_some _ _ s.port in
      let own : port_taken (HOSTS key port) ONE ≡ port_taken (HOSTS key port) (record { host = 0; took = took }) = ap PORT is ∙ same in
      let past = s.past in
      let apart : share_end 80000000 + 165888000 ≤ took = comes_late key 80000000 took (s.in_turn ONE (inl refl) own) (ap (λ (p : Port). p.number) own) in
      omega (arith, apart, past)

  pub two_clients : TwoClients key port
  unfolding most
  two_clients =
      record {
        keep = record { ticks = refl; days = λ host. keeps_time };
        quiet = λ station at is. refl;
        starts =
            record {
              port = ap (λ (n : ℕ). Some (PORT n)) (sym is);
              past = omega arith;
              in_turn = λ other has. absurd has;
            };
        asks = record { client = ONE; one_of = inl refl; port = ap PORT (sym is); early = record { moment = 80006; in_share = omega arith; soon = omega arith } };
        asks_no_more = no_more;
        starts_again =
            record {
              port = ap (λ (n : ℕ). Some (PORT n)) (sym is ∙ same_port key);
              past = omega arith;
              in_turn = λ other has same. in_turn other has;
            };
        too_early = too_early;
      }
