-- Until when each node's client sends for what it asked.
use Rattle.std.proofs.Common.{◌≡◌, ℕ, ◌+◌, ◌<◌, ◌≤◌, ◌⊎◌, min, Bool, true, false, ◌&&◌, not, Option, Some, if◌then◌else◌, nat_eq}
use Rattle.std.proofs.Common.{refl, sym, subst, inl, inr, ◌∙◌, arith}
use Rattle.std.proofs.lemmas.Bool.Decides.{nat_tests}
use Rattle.bac_protocol.specs.Times.{DEADLINE, KEEP, REST}
use Rattle.bac_protocol.specs.Pace.{Pace, most, clock_at, goes_on}
use Rattle.bac_protocol.specs.Client as client
use Rattle.bac_protocol.specs.Client.{Ask, ClientTransaction}
use Rattle.bac_protocol.specs.Transaction.{Key, Rules, client_context}
use Rattle.bac_protocol.specs.World.{Net, net_start, client_now, client_acts, set_at, is_lost, is_in_time, is_quiet, asked_at, client_restarted, next_client, passes}
use Rattle.bac_protocol.proofs.Keys.{decide_key, set_same, set_other}
use Rattle.bac_protocol.proofs.Nets.{NetSound, sound_at, was_there}

-- one ask: its client sends for it no later than that; where another client began at its node, all is over
pub record IsSentBy (p : Pace) (now sends from restarted made until : ℕ) : Type 0 where
  pub made_until : made ≤ until
  pub soon : until < sends
  pub stays : restarted ≤ made → made + most p DEADLINE < sends
  pub gone : from ≡ 0 → made < restarted → until + p.life + most p KEEP + p.life < now

pub record SendsIn (p : Pace) (now : ℕ) (sends from restarted : ℕ → ℕ) (made until : Key → ℕ) (ts : Key → Option ClientTransaction) : Type 0 where
  pub each : (key : Key) (t : ClientTransaction) → ts key ≡ Some t
      → IsSentBy p now (sends key.client) (from key.client) (restarted key.client) (made key) (until key)
  pub bound : (node : ℕ) → sends node ≤ now + most p DEADLINE + 1

abbrev pub Sends : Net → Type 0
Sends n = SendsIn n.pace n.now n.sends_until n.asks_from n.restarted n.made n.until n.tickets

pub sends_client : (n : Net) → Sends n → (key : Key) (t : ClientTransaction) → n.tickets key ≡ Some t → (r : client.Reaction) → Sends (client_acts n key t r)
sends_client n s key t at r = record { each = λ k u is. go k u is (decide_key key k); bound = s.bound }
  where
    go : (k : Key) (u : ClientTransaction) → set_at n.tickets key (Some (client.after (client_now n key) t r)) k ≡ Some u → ((key ≡ k) ⊎ (key ≡ k → ⊥))
        → IsSentBy n.pace n.now (n.sends_until k.client) (n.asks_from k.client) (n.restarted k.client) (n.made k) (n.until k)
    go k u is (inl same) = subst (λ (j : Key). IsSentBy n.pace n.now (n.sends_until j.client) (n.asks_from j.client) (n.restarted j.client) (n.made j) (n.until j)) same
        (s.each key t at)
    go k u is (inr ne) = s.each k u (sym (set_other n.tickets key (Some (client.after (client_now n key) t r)) k ne) ∙ is)

pub sends_asked : (x : Rules) (n : Net) → Sends n → (key : Key) → n.restarted key.client ≤ n.now → (ask : Ask) → Sends (asked_at x n key ask)
sends_asked x n s key before ask = record { each = λ k u is. go k u is (decide_key key k); bound = λ node. bound (nat_eq node key.client) (n.sends_until node) (s.bound node) }
  where
    sends : ℕ
    sends = n.now + most n.pace DEADLINE + 1

    made : Option ClientTransaction
    made = Some (client.asked_ticket (client_context x key (client_now n key)) ask)

    bound : (b : Bool) (old : ℕ) → old ≤ sends → (if b then sends else old) ≤ sends
    bound true old le = omega arith
    bound false old le = le

    here : (b : Bool) (old from restarted : ℕ) → b ≡ true → restarted ≤ n.now → IsSentBy n.pace n.now (if b then sends else old) from restarted n.now n.now
    here true old from restarted e before = record { made_until = omega arith; soon = omega arith; stays = λ le. omega arith; gone = λ none lost. absurd (omega arith) }
    here false old from restarted e before = absurd cc

    there : (b : Bool) (old from restarted made until : ℕ) → old ≤ sends → IsSentBy n.pace n.now old from restarted made until
        → IsSentBy n.pace n.now (if b then sends else old) from restarted made until
    there true old from restarted m until le h = record {
      made_until = h.made_until;
      soon = let lt = h.soon in omega arith;
      stays = λ early. let lt = h.stays early in omega arith;
      gone = h.gone;
    }
    there false old from restarted m until le h = h

    go : (k : Key) (u : ClientTransaction) → set_at n.tickets key made k ≡ Some u → ((key ≡ k) ⊎ (key ≡ k → ⊥))
        → IsSentBy n.pace n.now (if nat_eq k.client key.client then sends else n.sends_until k.client) (n.asks_from k.client) (n.restarted k.client)
        (set_at n.made key n.now k) (set_at n.until key n.now k)
    go k u is (inl same) = subst (λ (j : Key). IsSentBy n.pace n.now (if nat_eq j.client key.client then sends else n.sends_until j.client) (n.asks_from j.client)
        (n.restarted j.client) (set_at n.made key n.now j) (set_at n.until key n.now j)) same
        (subst (λ (m : ℕ). IsSentBy n.pace n.now (if nat_eq key.client key.client then sends else n.sends_until key.client) (n.asks_from key.client)
        (n.restarted key.client) m (set_at n.until key n.now key)) (sym (set_same n.made key n.now))
        (subst (λ (m : ℕ). IsSentBy n.pace n.now (if nat_eq key.client key.client then sends else n.sends_until key.client) (n.asks_from key.client)
        (n.restarted key.client) n.now m) (sym (set_same n.until key n.now))
        (here (nat_eq key.client key.client) (n.sends_until key.client) (n.asks_from key.client) (n.restarted key.client)
        (grind (arith, nat_tests)) before)))
    go k u is (inr ne) =
        subst (λ (m : ℕ). IsSentBy n.pace n.now (if nat_eq k.client key.client then sends else n.sends_until k.client) (n.asks_from k.client)
        (n.restarted k.client) m (set_at n.until key n.now k)) (sym (set_other n.made key n.now k ne))
        (subst (λ (m : ℕ). IsSentBy n.pace n.now (if nat_eq k.client key.client then sends else n.sends_until k.client) (n.asks_from k.client)
        (n.restarted k.client) (n.made k) m) (sym (set_other n.until key n.now k ne))
        (there (nat_eq k.client key.client) (n.sends_until k.client) (n.asks_from k.client) (n.restarted k.client) (n.made k) (n.until k) (s.bound k.client) (s.each k u (sym (set_other n.tickets key made k ne) ∙ is))))

pub sends_later : (W : ℕ) (n : Net) (by : ℕ) (clients servers : ℕ → ℕ) → NetSound W (passes n by clients servers) → Sends n → Sends (passes n by clients servers)
sends_later W n by clients servers sound s = record {
  each = λ key t at. go key t at (is_lost n key) (is_in_time (goes_on n.pace by (clients key.client) (n.client_clocks key.client)).shows (n.tickets key)) refl refl
      (timed key t at);
  bound = λ node. let le = s.bound node in omega arith;
}
  where
    timed : (key : Key) (t : ClientTransaction) → n.tickets key ≡ Some t
        → (n.made key ≤ n.now + by) × ((passes n by clients servers).until key ≤ n.made key + most n.pace DEADLINE)
    timed key t at = let h = (sound_at W (passes n by clients servers) key (Some t) at sound).2 in (h.clock.on, h.clock.early)

    go : (key : Key) (t : ClientTransaction) → n.tickets key ≡ Some t → (a b : Bool) → is_lost n key ≡ a
        → is_in_time (goes_on n.pace by (clients key.client) (n.client_clocks key.client)).shows (n.tickets key) ≡ b
        → (n.made key ≤ n.now + by) × ((if not a && b then n.now + by else n.until key) ≤ n.made key + most n.pace DEADLINE)
        → IsSentBy n.pace (n.now + by) (n.sends_until key.client) (n.asks_from key.client) (n.restarted key.client) (n.made key)
        (if not a && b then n.now + by else n.until key)
    go key t at false true e f h =
        let old = s.each key t at in
        let stays : n.restarted key.client ≤ n.made key = grind (arith, nat_tests) in
        record {
          made_until = h.0;
          soon = let lt = old.stays stays in let early = h.1 in omega arith;
          stays = old.stays;
          gone = λ none lost. absurd (omega arith);
        }
    go key t at false false e f h = same (s.each key t at)
      where
        same : IsSentBy n.pace n.now (n.sends_until key.client) (n.asks_from key.client) (n.restarted key.client) (n.made key) (n.until key)
            → IsSentBy n.pace (n.now + by) (n.sends_until key.client) (n.asks_from key.client) (n.restarted key.client) (n.made key) (n.until key)
        same old = record { made_until = old.made_until; soon = old.soon; stays = old.stays; gone = λ none lost. let lt = old.gone none lost in omega arith }
    go key t at true b e f h =
        let old = s.each key t at in
        record { made_until = old.made_until; soon = old.soon; stays = old.stays; gone = λ none lost. let lt = old.gone none lost in omega arith }

pub sends_restarted : (W : ℕ) (n : Net) (node exact : ℕ) → NetSound W n → Sends n → Sends (client_restarted n node exact)
sends_restarted W n node exact sound s = record {
  each = λ key u at. let t = was_there (n.tickets key) (nat_eq key.client node) u at in go key t.0 t.1 (nat_eq key.client node);
  bound = λ m. bound (nat_eq m node) (n.sends_until m) (s.bound m);
}
  where
    bound : (b : Bool) (old : ℕ) → old ≤ n.now + most n.pace DEADLINE + 1 → (if b then min old (n.now + 1) else old) ≤ n.now + most n.pace DEADLINE + 1
    bound true old le = omega arith
    bound false old le = le

    go : (key : Key) (t : ClientTransaction) → n.tickets key ≡ Some t → (b : Bool)
        → IsSentBy n.pace n.now (if b then min (n.sends_until key.client) (n.now + 1) else n.sends_until key.client)
        (if b then (clock_at n.pace exact).shows + REST + 1 else n.asks_from key.client) (if b then n.now + 1 else n.restarted key.client) (n.made key) (n.until key)
    go key t at true =
        let old = s.each key t at in
        let clock = ((sound_at W n key (Some t) at sound).2).clock in
        record {
          made_until = old.made_until;
          soon = let lt = old.soon in let le = clock.until_on in omega arith;
          stays = λ early. let le = clock.on in absurd (omega arith);
          gone = λ none lost. absurd (omega arith);
        }
    go key t at false = s.each key t at

-- where it is quiet, all asks were made earlier
pub quiet_before : (n : Net) (node : ℕ) → Sends n → is_quiet n node ≡ true → (key : Key) (t : ClientTransaction) → key.client ≡ node → n.tickets key ≡ Some t
    → n.until key + n.pace.life + most n.pace KEEP + n.pace.life < n.now
quiet_before n node s quiet key t is at =
    let h = s.each key t at in
    let soon : n.until key < n.sends_until node = subst (λ (m : ℕ). n.until key < n.sends_until m) is h.soon in
    let late : n.sends_until node + n.pace.life + most n.pace KEEP + n.pace.life ≤ n.now = grind (arith, nat_tests) in
    omega arith

pub made_before : (n : Net) (node : ℕ) → Sends n → is_quiet n node ≡ true → (key : Key) (t : ClientTransaction) → key.client ≡ node → n.tickets key ≡ Some t
    → n.made key < n.now
made_before n node s quiet key t is at =
    let h = s.each key t at in let le = h.made_until in let lt = quiet_before n node s quiet key t is at in omega arith

pub sends_next_client : (n : Net) (node exact : ℕ) → is_quiet n node ≡ true → Sends n → Sends (next_client n node exact)
sends_next_client n node exact quiet s = record {
  each = λ key u at. let t = was_there (n.tickets key) (nat_eq key.client node) u at in go key t.0 t.1 (nat_eq key.client node) refl;
  bound = s.bound;
}
  where
    go : (key : Key) (t : ClientTransaction) → n.tickets key ≡ Some t → (b : Bool) → nat_eq key.client node ≡ b
        → IsSentBy n.pace n.now (n.sends_until key.client) (if b then 0 else n.asks_from key.client) (if b then n.now else n.restarted key.client) (n.made key)
        (n.until key)
    go key t at true e =
        let old = s.each key t at in
        let is : key.client ≡ node = grind (arith, nat_tests) in
        let made = made_before n node s quiet key t is at in
        let late = quiet_before n node s quiet key t is at in
        record { made_until = old.made_until; soon = old.soon; stays = λ le. absurd (omega arith); gone = λ none lost. late }
    go key t at false e = s.each key t at

pub sends_start : (pace : Pace) (clocks : ℕ → ℕ) → Sends (net_start pace clocks)
sends_start pace clocks = record { each = λ key t at. absurd cc; bound = λ node. omega arith }
