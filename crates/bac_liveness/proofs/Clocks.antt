-- One ask by the clocks of its two ends, on any path of steps.
use Rattle.std.proofs.Common.{◌≡◌, ℕ, ◌+◌, ◌-◌, ◌*◌, ◌/◌, ◌<◌, ◌≤◌, ◌⊎◌, Bool, true, false, if◌then◌else◌, nat_eq, min, refl, ap, subst, ◌∙◌, nat_le, inl, inr, arith}
use Rattle.std.proofs.lemmas.Bool.Decides.{nat_tests}
use Rattle.std.proofs.Math.Nat.{mul-le-mul_left}
use Rattle.bac_protocol.specs.declared.times.TheConstants.{DEADLINE, KEEP, REST}
use Rattle.bac_protocol.specs.Pace.{Pace, Clock, period, most, least, goes_on, clock_at, steps, IsTimely, IsShown, Since}
use Rattle.bac_protocol.specs.Client.{Ask}
use Rattle.bac_protocol.specs.Server.{ServerTransaction, Service, is_live}
use Rattle.bac_protocol.specs.Transaction.{Key, Rules}
use Rattle.bac_protocol.specs.World.{Net, asked_at, client_now, is_quiet, passes}
use Rattle.bac_protocol.proofs.Resting.{IsUnasked}
use Rattle.bac_protocol.proofs.Paces.{divided, shown_at, since_now, since_later, shows_on, within_most, beyond_least}
use Rattle.bac_liveness.specs.Runs.{StaysSince}
use Rattle.bac_liveness.proofs.Paths.{Step, Path, Bounded, WasMadeIn, ask_of, path_bounded, quiet_before, sends_asked, stays_before, was_made_path}
use Rattle.bac_liveness.proofs.Paths.Step.{Asks, Serves, Hears, TicksTicket, TicksEntry, Passes, Changes, RestartsClient, RestartsServer, BeginsClient, BeginsServer, BeginsNext, Strange}
use Rattle.bac_liveness.proofs.Paths.Path.{Here, Then}

-- the ask was made at that real moment, when its client's clock showed `first`, and its client has not restarted since
pub record IsMade (p : Pace) (now : ℕ) (client server : Clock) (sends restarted first made : ℕ) : Type 0 where
  pub timely : IsTimely p
  pub sent : made < sends
  pub client_told : IsShown p client
  pub server_told : IsShown p server
  pub stays : restarted ≤ made
  pub since : Since p made first now client

-- the server's clock showed so much since then
pub record IsBegunAfter (p : Pace) (now : ℕ) (server : Clock) (made begin : ℕ) : Type 0 where
  pub began : ℕ
  pub after : made ≤ began
  pub since : Since p began begin now server

-- the server restarted since then
pub record IsLostAfter (p : Pace) (now : ℕ) (server : Clock) (made from : ℕ) : Type 0 where
  pub restarted : ℕ
  pub shown : ℕ
  pub after : made ≤ restarted
  pub since : Since p restarted shown now server
  pub from_is : from ≡ shown + KEEP + 1

abbrev pub MadeIn : Net → Key → (first made : ℕ) → Type 0
MadeIn n key first made =
    IsMade n.pace n.now (n.client_clocks key.client) (n.server_clocks key.server) (n.sends_until key.client) (n.restarted key.client) first made

pub was_made : (n : Net) (key : Key) (first made : ℕ) → MadeIn n key first made → WasMadeIn n key made
was_made n key first made h = record { by_now = h.since.on; sent = h.sent }

abbrev pub BegunIn : Net → Key → (made begin : ℕ) → Type 0
BegunIn n key made begin = IsBegunAfter n.pace n.now (n.server_clocks key.server) made begin

abbrev pub LostIn : Net → Key → (made from : ℕ) → Type 0
LostIn n key made from = IsLostAfter n.pace n.now (n.server_clocks key.server) made from

-- What follows of the times.

-- no clock passes KEEP earlier than DEADLINE
keeps_later : (p : Pace) → most p DEADLINE ≤ most p KEEP
unfolding most
keeps_later p =
    let ticks : DEADLINE / p.tick ≤ KEEP / p.tick = divided DEADLINE KEEP p.tick (omega arith) in
    let parts : period p * (DEADLINE / p.tick) ≤ period p * (KEEP / p.tick) = mul-le-mul_left (period p) ticks in
    divided (1000000 * (period p * (DEADLINE / p.tick) + (period p - 1))) (1000000 * (period p * (KEEP / p.tick) + (period p - 1))) (1000000 - p.drift) (omega arith)

-- so a node is quiet only when each ask of its client is past its time
quiet_is_late : (n : Net) (node : ℕ) → is_quiet n node ≡ true → (key : Key) (made : ℕ) → WasMadeIn n key made → key.client ≡ node → made + most n.pace DEADLINE < n.now
quiet_is_late n node quiet key made was is =
    let sent : made < n.sends_until node = subst (λ (m : ℕ). made < n.sends_until m) is was.sent in
    let over : n.sends_until node + n.pace.life + most n.pace KEEP + n.pace.life ≤ n.now = grind (arith, nat_tests) in
    let keeps = keeps_later n.pace in
    omega arith

-- KEEP is passed later than DEADLINE, and REST later than KEEP, by whatever clocks
rests_later : (p : Pace) → IsTimely p → most p DEADLINE ≤ least p REST
unfolding least
rests_later p timely =
    let keeps = timely.keeps in
    let ticks : KEEP / p.tick ≤ REST / p.tick = divided KEEP REST p.tick (omega arith) in
    let parts : period p * (KEEP / p.tick) ≤ period p * (REST / p.tick) = mul-le-mul_left (period p) ticks in
    let later : (1000000 * (period p * (KEEP / p.tick) + 1) - 1) / (1000000 + p.drift) ≤ (1000000 * (period p * (REST / p.tick) + 1) - 1) / (1000000 + p.drift) =
    divided (1000000 * (period p * (KEEP / p.tick) + 1) - 1) (1000000 * (period p * (REST / p.tick) + 1) - 1) (1000000 + p.drift) (omega arith) in
    omega arith

-- while no more real time has passed than while a clock goes on by DEADLINE
module _ (p : Pace) (timely : IsTimely p) (now : ℕ) (server : Clock) (told : IsShown p server) (made : ℕ) (soon : now ≤ made + most p DEADLINE) where
  -- an entry that was begun since is live
  pub alive_soon : (e : ServerTransaction) → IsBegunAfter p now server made e.begin → is_live server.shows e ≡ true
  alive_soon e b = go (nat_le (server.shows - e.begin) KEEP) refl
    where
      go : (z : Bool) → nat_le (server.shows - e.begin) KEEP ≡ z → nat_le (server.shows - e.begin) KEEP ≡ true
      go true is = is
      go false is =
          let dead : e.begin + KEEP < server.shows = grind (arith, nat_tests) in
          let late = beyond_least p timely KEEP b.began e.begin now server told b.since dead in
          let after = b.after in
          let early = soon in
          let keeps = timely.keeps in
          absurd (omega arith)

  -- and a server that restarted since waits
  pub closed_soon : (from : ℕ) → IsLostAfter p now server made from → server.shows < from
  closed_soon from l = omega (arith, over)
    where
      over : from ≤ server.shows → ⊥
      over le =
          let is = l.from_is in
          let late = beyond_least p timely KEEP l.restarted l.shown now server told l.since (omega arith) in
          let after = l.after in
          let early = soon in
          let keeps = timely.keeps in
          omega arith

-- so it is where an ask is in time by its client's clock
module _ (p : Pace) (now : ℕ) (client server : Clock) (restarted first made : ℕ) {sends : ℕ} (m : IsMade p now client server sends restarted first made)
    (young : client.shows ≤ first + DEADLINE) where
  pub soon : now ≤ made + most p DEADLINE
  soon = within_most p m.timely DEADLINE made first now client m.client_told m.since young

  -- while the ask is in time its entry is live
  pub alive : (e : ServerTransaction) → IsBegunAfter p now server made e.begin → is_live server.shows e ≡ true
  alive e b = alive_soon p m.timely now server m.server_told made soon e b

  -- and a server that restarted since waits
  pub closed : (from : ℕ) → IsLostAfter p now server made from → server.shows < from
  closed from l = closed_soon p m.timely now server m.server_told made soon from l

-- Where its client may have restarted.

-- it has not
pub record IsGoingOn (p : Pace) (now : ℕ) (client : Clock) (restarted first made : ℕ) : Type 0 where
  pub stays : restarted ≤ made
  pub since : Since p made first now client

-- it has, and asks nothing for REST by its new clock
pub record IsWaiting (p : Pace) (now : ℕ) (client : Clock) (restarted from made : ℕ) : Type 0 where
  pub moment : ℕ
  pub shown : ℕ
  pub after : made ≤ moment
  pub restarted_is : restarted ≡ moment + 1
  pub since : Since p moment shown now client
  pub from_is : from ≡ shown + REST + 1

-- another client began at its node, and more time has passed than the ask's client could send for it
pub record IsReplaced (p : Pace) (now restarted made : ℕ) : Type 0 where
  pub after : made < restarted
  pub late : made + most p DEADLINE < now

-- what has become of its client since
abbrev pub IsLife : (p : Pace) (now : ℕ) (client : Clock) (restarted from first made : ℕ) → Type 0
IsLife p now client restarted from first made =
    IsGoingOn p now client restarted first made ⊎ (IsWaiting p now client restarted from made ⊎ IsReplaced p now restarted made)

-- an ask by the clocks of its two ends
pub record IsAsked (p : Pace) (now : ℕ) (client server : Clock) (sends restarted from first made : ℕ) : Type 0 where
  pub timely : IsTimely p
  pub sent : made < sends
  pub client_told : IsShown p client
  pub server_told : IsShown p server
  pub on : made ≤ now
  pub life : IsLife p now client restarted from first made

abbrev pub AskedIn : Net → Key → (first made : ℕ) → Type 0
AskedIn n key first made =
    IsAsked n.pace n.now (n.client_clocks key.client) (n.server_clocks key.server) (n.sends_until key.client) (n.restarted key.client)
    (n.asks_from key.client) first made

pub was_asked : (n : Net) (key : Key) (first made : ℕ) → AskedIn n key first made → WasMadeIn n key made
was_asked n key first made h = record { by_now = h.on; sent = h.sent }

-- an ask whose client has not restarted
pub made_of : (n : Net) (key : Key) (first made : ℕ) → AskedIn n key first made → StaysSince n key made → MadeIn n key first made
made_of n key first made h stays = go h.life
  where
    go : IsLife n.pace n.now (n.client_clocks key.client) (n.restarted key.client) (n.asks_from key.client) first made → MadeIn n key first made
    go (inl g) = record
        { timely = h.timely; sent = h.sent; client_told = h.client_told; server_told = h.server_told; stays = g.stays; since = g.since }
    go (inr (inl w)) = let le = stays in let is = w.restarted_is in let after = w.after in absurd (omega arith)
    go (inr (inr r)) = let le = stays in let after = r.after in absurd (omega arith)

-- no more real time has passed
abbrev pub SoonIn : Net → (made : ℕ) → Type 0
SoonIn n made = n.now ≤ made + most n.pace DEADLINE

pub soon_of : (n : Net) (key : Key) (first made : ℕ) → AskedIn n key first made → StaysSince n key made → client_now n key ≤ first + DEADLINE → SoonIn n made
soon_of n key first made h stays young = soon n.pace n.now (n.client_clocks key.client) (n.server_clocks key.server) (n.restarted key.client) first made
    (made_of n key first made h stays) young

-- its client's clock has not gone on by more than REST, or the client waits
pub asks_no_more : (n : Net) (key : Key) (first made : ℕ) → AskedIn n key first made → SoonIn n made
    → ((n.restarted key.client ≤ made) × (client_now n key ≤ first + REST)) ⊎ (client_now n key < n.asks_from key.client)
asks_no_more n key first made h early = go h.life
  where
    rests : most n.pace DEADLINE ≤ least n.pace REST
    rests = rests_later n.pace h.timely

    go : IsLife n.pace n.now (n.client_clocks key.client) (n.restarted key.client) (n.asks_from key.client) first made
        → ((n.restarted key.client ≤ made) × (client_now n key ≤ first + REST)) ⊎ (client_now n key < n.asks_from key.client)
    go (inl g) = inl (g.stays, omega (arith, over))
      where
        over : first + REST < client_now n key → ⊥
        over lt =
            let late = beyond_least n.pace h.timely REST made first n.now (n.client_clocks key.client) h.client_told g.since lt in
            let far = rests in
            let soon' = early in
            omega arith
    go (inr (inr r)) = let late = r.late in let soon' = early in absurd (omega arith)
    go (inr (inl w)) = inr (omega (arith, over))
      where
        over : n.asks_from key.client ≤ client_now n key → ⊥
        over le =
            let is = w.from_is in
            let late = beyond_least n.pace h.timely REST w.moment w.shown n.now (n.client_clocks key.client) h.client_told w.since (omega arith) in
            let after = w.after in
            let far = rests in
            let soon' = early in
            omega arith

-- Each step.

module _ (x : Rules) (Q : Net → ℕ → Bool → Service → Type 0) (key : Key) (first made : ℕ) where
  -- a client that asked is none that begins
  sends_nothing : (n : Net) (node : ℕ) → IsUnasked n.tickets n.restarted n.sends_until node → (k : Key) → nat_eq k.client node ≡ true → n.sends_until k.client ≡ 0
  sends_nothing n node off k is = let at : k.client ≡ node = grind (arith, nat_tests) in ap n.sends_until at ∙ off.sends

  -- its server begins anew
  made_begun : (n : Net) (node exact : ℕ) → MadeIn n key first made
      → IsMade n.pace n.now (n.client_clocks key.client) (if nat_eq key.server node then clock_at n.pace exact else n.server_clocks key.server)
      (n.sends_until key.client) (n.restarted key.client) first made
  made_begun n node exact h = go (nat_eq key.server node)
    where
      go : (b : Bool) → IsMade n.pace n.now (n.client_clocks key.client) (if b then clock_at n.pace exact else n.server_clocks key.server)
          (n.sends_until key.client) (n.restarted key.client) first made
      go true = record {
        timely = h.timely;
        sent = h.sent;
        client_told = h.client_told;
        server_told = shown_at n.pace h.timely.some exact;
        stays = h.stays;
        since = h.since;
      }
      go false = h

  pub made_step : (n m : Net) → Step x Q n m → StaysSince m key made → MadeIn n key first made → MadeIn m key first made
  made_step n _ (Asks k choice whole front rest free) stays h = record {
    timely = h.timely;
    sent = sends_asked x Q (nat_eq key.client k.client) n.now made (most n.pace DEADLINE) (n.sends_until key.client) h.since.on h.sent;
    client_told = h.client_told;
    server_told = h.server_told;
    stays = h.stays;
    since = h.since;
  }
  made_step n _ (Serves number p free service at up q) stays h = h
  made_step n _ (Hears number p t at down there) stays h = h
  made_step n _ (TicksTicket k t there) stays h = h
  made_step n _ (TicksEntry k) stays h = h
  made_step n _ (Passes by clients servers) stays h = record {
    timely = h.timely;
    sent = h.sent;
    client_told = shown_at n.pace h.timely.some ((n.client_clocks key.client).exact + steps n.pace by (clients key.client));
    server_told = shown_at n.pace h.timely.some ((n.server_clocks key.server).exact + steps n.pace by (servers key.server));
    stays = h.stays;
    since = since_later n.pace made first n.now by (clients key.client) (n.client_clocks key.client) h.since;
  }
  made_step n _ (Changes node change) stays h = h
  made_step n _ (Strange m aside) stays h = h
  made_step n _ (RestartsClient node exact) stays h = go (nat_eq key.client node) stays
    where
      go : (b : Bool) → (if b then n.now + 1 else n.restarted key.client) ≤ made
          → IsMade n.pace n.now (if b then clock_at n.pace exact else n.client_clocks key.client) (n.server_clocks key.server)
          (if b then min (n.sends_until key.client) (n.now + 1) else n.sends_until key.client) (if b then n.now + 1 else n.restarted key.client) first made
      go true le = let on = h.since.on in absurd (omega arith)
      go false le = h
  made_step n _ (RestartsServer node exact store) stays h = made_begun n node exact h
  made_step n _ (BeginsClient node exact off) stays h = go (nat_eq key.client node) refl
    where
      go : (b : Bool) → nat_eq key.client node ≡ b → IsMade n.pace n.now (if b then clock_at n.pace exact else n.client_clocks key.client)
          (n.server_clocks key.server) (n.sends_until key.client) (n.restarted key.client) first made
      go true is = let none : n.sends_until key.client ≡ 0 = sends_nothing n node off key is in let sent = h.sent in absurd (omega arith)
      go false is = h
  made_step n _ (BeginsServer node exact off) stays h = made_begun n node exact h
  made_step n _ (BeginsNext node exact quiet earlier) stays h = go (nat_eq key.client node) refl stays
    where
      go : (b : Bool) → nat_eq key.client node ≡ b → (if b then n.now else n.restarted key.client) ≤ made
          → IsMade n.pace n.now (if b then clock_at n.pace exact else n.client_clocks key.client) (n.server_clocks key.server) (n.sends_until key.client)
          (if b then n.now else n.restarted key.client) first made
      go true is le = let lt = quiet_before n node quiet key made (was_made n key first made h) (grind (arith, nat_tests)) in absurd (omega arith)
      go false is le = h

  pub begun_passes : (n : Net) (by : ℕ) (clients servers : ℕ → ℕ) (begin : ℕ) → BegunIn n key made begin → BegunIn (passes n by clients servers) key made begin
  begun_passes n by clients servers begin h =
      record { began = h.began; after = h.after; since = since_later n.pace h.began begin n.now by (servers key.server) (n.server_clocks key.server) h.since }

  pub lost_passes : (n : Net) (by : ℕ) (own : ℕ → ℕ) (from : ℕ) → LostIn n key made from
      → IsLostAfter n.pace (n.now + by) (goes_on n.pace by (own key.server) (n.server_clocks key.server)) made from
  lost_passes n by own from h = record {
    restarted = h.restarted;
    shown = h.shown;
    after = h.after;
    since = since_later n.pace h.restarted h.shown n.now by (own key.server) (n.server_clocks key.server) h.since;
    from_is = h.from_is;
  }

  -- its client's clock goes on
  pub here_step : (n m : Net) → Step x Q n m → StaysSince m key made → MadeIn n key first made → client_now n key ≤ client_now m key
  here_step n _ (Asks k choice whole front rest free) stays h = omega arith
  here_step n _ (Serves number p free service at up q) stays h = omega arith
  here_step n _ (Hears number p t at down there) stays h = omega arith
  here_step n _ (TicksTicket k t there) stays h = omega arith
  here_step n _ (TicksEntry k) stays h = omega arith
  here_step n _ (Passes by clients servers) stays h = shows_on n.pace h.timely.some by (clients key.client) (n.client_clocks key.client) h.client_told
  here_step n _ (Changes node change) stays h = omega arith
  here_step n _ (Strange m aside) stays h = omega arith
  here_step n _ (RestartsClient node exact) stays h = go (nat_eq key.client node) stays
    where
      go : (b : Bool) → (if b then n.now + 1 else n.restarted key.client) ≤ made
          → client_now n key ≤ (if b then clock_at n.pace exact else n.client_clocks key.client).shows
      go true le = let on = h.since.on in absurd (omega arith)
      go false le = omega arith
  here_step n _ (RestartsServer node exact store) stays h = omega arith
  here_step n _ (BeginsServer node exact off) stays h = omega arith
  here_step n _ (BeginsClient node exact off) stays h = go (nat_eq key.client node) refl
    where
      go : (b : Bool) → nat_eq key.client node ≡ b → client_now n key ≤ (if b then clock_at n.pace exact else n.client_clocks key.client).shows
      go true is = let none : n.sends_until key.client ≡ 0 = sends_nothing n node off key is in let sent = h.sent in absurd (omega arith)
      go false is = omega arith
  here_step n _ (BeginsNext node exact quiet earlier) stays h = go (nat_eq key.client node) refl stays
    where
      go : (b : Bool) → nat_eq key.client node ≡ b → (if b then n.now else n.restarted key.client) ≤ made
          → client_now n key ≤ (if b then clock_at n.pace exact else n.client_clocks key.client).shows
      go true is le = let lt = quiet_before n node quiet key made (was_made n key first made h) (grind (arith, nat_tests)) in absurd (omega arith)
      go false is le = omega arith

  pub stays_at : (n l m : Net) → Path x Q n l → Step x Q l m → Bounded n → StaysSince m key made → MadeIn n key first made → StaysSince l key made
  stays_at n l m p s b stays h = stays_before x Q l m s (path_bounded x Q n l p b) key made (was_made_path x Q n l p key made (was_made n key first made h)) stays

  pub made_path : (n m : Net) → Path x Q n m → Bounded n → StaysSince m key made → MadeIn n key first made → MadeIn m key first made
  made_path n _ Here b stays h = h
  made_path n _ (Then l m p s) b stays h =
      made_step l m s stays (made_path n l p b (stays_at n l m p s b stays h) h)

  pub here_path : (n m : Net) → Path x Q n m → Bounded n → StaysSince m key made → MadeIn n key first made → client_now n key ≤ client_now m key
  here_path n _ Here b stays h = omega arith
  here_path n _ (Then l m p s) b stays h =
      let before = stays_at n l m p s b stays h in
      let a = here_path n l p b before h in
      let c = here_step l m s stays (made_path n l p b before h) in
      omega arith

  -- another ask is made
  pub asked_asks : (n : Net) (k : Key) (other : Ask) → AskedIn n key first made → AskedIn (asked_at x n k other) key first made
  asked_asks n k other h = record {
    timely = h.timely;
    sent = sends_asked x Q (nat_eq key.client k.client) n.now made (most n.pace DEADLINE) (n.sends_until key.client) h.on h.sent;
    client_told = h.client_told;
    server_told = h.server_told;
    on = h.on;
    life = h.life;
  }

  -- its server begins anew
  asked_begun : (n : Net) (node exact : ℕ) → AskedIn n key first made
      → IsAsked n.pace n.now (n.client_clocks key.client) (if nat_eq key.server node then clock_at n.pace exact else n.server_clocks key.server)
      (n.sends_until key.client) (n.restarted key.client) (n.asks_from key.client) first made
  asked_begun n node exact h = go (nat_eq key.server node)
    where
      go : (b : Bool) → IsAsked n.pace n.now (n.client_clocks key.client) (if b then clock_at n.pace exact else n.server_clocks key.server)
          (n.sends_until key.client) (n.restarted key.client) (n.asks_from key.client) first made
      go true = record {
        timely = h.timely;
        sent = h.sent;
        client_told = h.client_told;
        server_told = shown_at n.pace h.timely.some exact;
        on = h.on;
        life = h.life;
      }
      go false = h

  -- whatever happens
  pub asked_step : (n m : Net) → Step x Q n m → AskedIn n key first made → AskedIn m key first made
  asked_step n _ (Asks k choice whole front rest free) h = asked_asks n k (ask_of (client_now n k) choice whole front rest) h
  asked_step n _ (Serves number p free service at up q) h = h
  asked_step n _ (Hears number p t at down there) h = h
  asked_step n _ (TicksTicket k t there) h = h
  asked_step n _ (TicksEntry k) h = h
  asked_step n _ (Passes by clients servers) h = record {
    timely = h.timely;
    sent = h.sent;
    client_told = shown_at n.pace h.timely.some ((n.client_clocks key.client).exact + steps n.pace by (clients key.client));
    server_told = shown_at n.pace h.timely.some ((n.server_clocks key.server).exact + steps n.pace by (servers key.server));
    on = let before = h.on in omega arith;
    life = go h.life;
  }
    where
      go : IsLife n.pace n.now (n.client_clocks key.client) (n.restarted key.client) (n.asks_from key.client) first made
          → IsLife n.pace (n.now + by) (goes_on n.pace by (clients key.client) (n.client_clocks key.client)) (n.restarted key.client)
          (n.asks_from key.client) first made
      go (inl g) = inl (record {
        stays = g.stays;
        since = since_later n.pace made first n.now by (clients key.client) (n.client_clocks key.client) g.since;
      })
      go (inr (inl w)) = inr (inl (record {
        moment = w.moment;
        shown = w.shown;
        after = w.after;
        restarted_is = w.restarted_is;
        since = since_later n.pace w.moment w.shown n.now by (clients key.client) (n.client_clocks key.client) w.since;
        from_is = w.from_is;
      }))
      go (inr (inr r)) = inr (inr (record { after = r.after; late = let late = r.late in omega arith }))
  asked_step n _ (Changes node change) h = h
  asked_step n _ (Strange m aside) h = h
  asked_step n _ (RestartsClient node exact) h = go (nat_eq key.client node)
    where
      go : (b : Bool) → IsAsked n.pace n.now (if b then clock_at n.pace exact else n.client_clocks key.client) (n.server_clocks key.server)
          (if b then min (n.sends_until key.client) (n.now + 1) else n.sends_until key.client)
          (if b then n.now + 1 else n.restarted key.client) (if b then (clock_at n.pace exact).shows + REST + 1 else n.asks_from key.client) first made
      go true = record {
        timely = h.timely;
        sent = let sent = h.sent in let on = h.on in omega arith;
        client_told = shown_at n.pace h.timely.some exact;
        server_told = h.server_told;
        on = h.on;
        life = inr (inl (record {
          moment = n.now;
          shown = (clock_at n.pace exact).shows;
          after = h.on;
          restarted_is = refl;
          since = since_now n.pace n.now (clock_at n.pace exact) (shown_at n.pace h.timely.some exact);
          from_is = refl;
        }));
      }
      go false = h
  asked_step n _ (RestartsServer node exact store) h = asked_begun n node exact h
  asked_step n _ (BeginsClient node exact off) h = go (nat_eq key.client node) refl
    where
      go : (b : Bool) → nat_eq key.client node ≡ b → IsAsked n.pace n.now (if b then clock_at n.pace exact else n.client_clocks key.client)
          (n.server_clocks key.server) (n.sends_until key.client) (n.restarted key.client) (n.asks_from key.client) first made
      go true is = let none : n.sends_until key.client ≡ 0 = sends_nothing n node off key is in let sent = h.sent in absurd (omega arith)
      go false is = h
  asked_step n _ (BeginsServer node exact off) h = asked_begun n node exact h
  asked_step n _ (BeginsNext node exact quiet earlier) h = go (nat_eq key.client node) refl
    where
      go : (b : Bool) → nat_eq key.client node ≡ b → IsAsked n.pace n.now (if b then clock_at n.pace exact else n.client_clocks key.client)
          (n.server_clocks key.server) (n.sends_until key.client) (if b then n.now else n.restarted key.client) (if b then 0 else n.asks_from key.client)
          first made
      go true is =
          let late = quiet_is_late n node quiet key made (was_asked n key first made h) (grind (arith, nat_tests)) in
          record {
            timely = h.timely;
            sent = h.sent;
            client_told = shown_at n.pace h.timely.some exact;
            server_told = h.server_told;
            on = h.on;
            life = inr (inr (record { after = omega arith; late = late }));
          }
      go false is = h

  pub asked_path : (n m : Net) → Path x Q n m → AskedIn n key first made → AskedIn m key first made
  asked_path n _ Here h = h
  asked_path n _ (Then l m p s) h = asked_step l m s (asked_path n l p h)

  -- the pace stays, and real time goes on
  pub soon_before : (n m : Net) → Step x Q n m → SoonIn m made → SoonIn n made
  soon_before n _ (Asks k choice whole front rest free) h = h
  soon_before n _ (Serves number p free service at up q) h = h
  soon_before n _ (Hears number p t at down there) h = h
  soon_before n _ (TicksTicket k t there) h = h
  soon_before n _ (TicksEntry k) h = h
  soon_before n _ (Passes by clients servers) h = let le = h in omega arith
  soon_before n _ (Changes node change) h = h
  soon_before n _ (Strange m aside) h = h
  soon_before n _ (RestartsClient node exact) h = h
  soon_before n _ (RestartsServer node exact store) h = h
  soon_before n _ (BeginsClient node exact off) h = h
  soon_before n _ (BeginsServer node exact off) h = h
  soon_before n _ (BeginsNext node exact quiet earlier) h = h

  pub soon_since : (n m : Net) → Path x Q n m → SoonIn m made → SoonIn n made
  soon_since n _ Here h = h
  soon_since n _ (Then l m p s) h = soon_since n l p (soon_before l m s h)
