-- What a step makes of one transaction's ticket.
use Rattle.std.proofs.Common.{◌≡◌, ℕ, ◌+◌, ◌<◌, ◌≤◌, ◌⊎◌, Bool, true, false, List, Some, if◌then◌else◌, nat_eq, refl, sym, ap, subst, inl, inr, ◌∙◌, arith}
use Rattle.std.proofs.lemmas.Bool.Decides.{nat_tests}
use Rattle.bac_protocol.specs.Service.{Ending}
use Rattle.bac_protocol.specs.Client as client
use Rattle.bac_protocol.specs.Client.{Ask, ClientTransaction, Reaction, is_idle, after, ending_of}
use Rattle.bac_protocol.specs.Client.Phase.{Idle}
use Rattle.bac_protocol.specs.Client.Reaction.{Stays, GoesOn, Repeats, Ends}
use Rattle.bac_protocol.specs.Server.{Service}
use Rattle.bac_protocol.specs.Log.{Fact, Has}
use Rattle.bac_protocol.specs.Log.Fact.{Ended}
use Rattle.bac_protocol.specs.Transaction.{Key, Rules, client_context, ended}
use Rattle.bac_protocol.specs.World.{Net, is_id_held, asked_at, client_acts, client_restarted, next_client, lost, client_now}
use Rattle.bac_protocol.specs.Claims.{ClientStays}
use Rattle.bac_protocol.proofs.Facts.{Grows}
use Rattle.bac_protocol.proofs.Keys.{decide_key, set_same, set_other}
use Rattle.bac_protocol.proofs.Nets.{was_there}
use Rattle.bac_liveness.proofs.Opens.{Opens, gets_opens, ticks_opens, asked_opens}
use Rattle.bac_liveness.proofs.Paths.{some_is, ask_of, Step, Path, Bounded, WasMadeIn, step_log, stays_before, path_bounded}
use Rattle.bac_liveness.proofs.Paths.Step.{Asks, Serves, Hears, TicksTicket, TicksEntry, Passes, Changes, RestartsClient, RestartsServer, BeginsClient, BeginsServer, BeginsNext, Strange}
use Rattle.bac_liveness.proofs.Paths.Path.{Here, Then}

-- it stays, a new ask takes its place, its client's machine acts on it, or its client begins anew
pub data Change (key : Key) (n m : Net) : Type 0 where
  Same : m.tickets key ≡ n.tickets key → m.numbers key ≡ n.numbers key → m.made key ≡ n.made key → Change key n m
  Fresh : is_id_held n key ≡ false → (t : ClientTransaction) → m.tickets key ≡ Some t → is_idle t.phase ≡ false → Change key n m
  Reacts : (t : ClientTransaction) (r : Reaction) → n.tickets key ≡ Some t → Opens r → m.tickets key ≡ Some (after (client_now n key) t r)
      → m.numbers key ≡ n.numbers key → m.made key ≡ n.made key → m.log ≡ ended (n.numbers key) (ending_of r) n.log → Change key n m
  Loses : m.tickets key ≡ lost (n.tickets key) → m.numbers key ≡ n.numbers key → m.made key ≡ n.made key
      → (n.made key ≤ n.now → (t : ClientTransaction) → n.tickets key ≡ Some t → n.made key < m.restarted key.client) → Change key n m

abbrev pub HasEnded : ℕ → List Fact → Type 0
HasEnded n log = (how : Ending) × Has (Ended n how) log

pub ended_grows : (number : ℕ) (log new : List Fact) → Grows log new → HasEnded number log → HasEnded number new
ended_grows number log new g h = (h.0, g (Ended number h.0) h.1)

-- each ticket is of an ask that was made, and where it is idle and its client has not restarted since, the log has its ending
abbrev pub IdleIsLogged : Net → Type 0
IdleIsLogged n =
    (key : Key) (t : ClientTransaction) → n.tickets key ≡ Some t
    → ClientStays n key → is_idle t.phase ≡ true → HasEnded (n.numbers key) n.log

after_ask : (now : ℕ) (t : ClientTransaction) (r : Reaction) → (after now t r).ask ≡ t.ask
after_ask now t Stays = refl
after_ask now t (GoesOn phase sends) = refl
after_ask now t (Repeats phase sends) = refl
after_ask now t (Ends sends how) = refl

after_logged : (number now : ℕ) (t : ClientTransaction) (r : Reaction) (log : List Fact) → Opens r → (is_idle t.phase ≡ true → HasEnded number log)
    → is_idle (after now t r).phase ≡ true → HasEnded number (ended number (ending_of r) log)
after_logged number now t Stays log opens old idle = old idle
after_logged number now t (GoesOn phase sends) log opens old idle = absurd cc
after_logged number now t (Repeats phase sends) log opens old idle = absurd cc
after_logged number now t (Ends sends how) log opens old idle = (how, inl refl)

module _ (x : Rules) (Q : Net → ℕ → Bool → Service → Type 0) where
  acts_change : (n : Net) (k : Key) (t : ClientTransaction) (r : Reaction) → n.tickets k ≡ Some t → Opens r → (key : Key) → Change key n (client_acts n k t r)
  acts_change n k t r at opens key = go (decide_key k key)
    where
      go : ((k ≡ key) ⊎ (k ≡ key → ⊥)) → Change key n (client_acts n k t r)
      go (inl is) = subst (λ (j : Key). Change j n (client_acts n k t r)) is
          (Change.Reacts t r at opens (set_same n.tickets k (Some (after (client_now n k) t r))) refl refl refl)
      go (inr ne) = Change.Same (set_other n.tickets k (Some (after (client_now n k) t r)) key ne) refl refl

  asks_change : (n : Net) (k : Key) (ask : Ask) → is_id_held n k ≡ false → (key : Key) → Change key n (asked_at x n k ask)
  asks_change n k ask free key = go (decide_key k key)
    where
      made : ClientTransaction
      made = client.asked_ticket (client_context x k (client_now n k)) ask

      go : ((k ≡ key) ⊎ (k ≡ key → ⊥)) → Change key n (asked_at x n k ask)
      go (inl is) = subst (λ (j : Key). Change j n (asked_at x n k ask)) is
          (Change.Fresh free made (set_same n.tickets k (Some made)) (asked_opens (client_context x k (client_now n k)) ask))
      go (inr ne) = Change.Same (set_other n.tickets k (Some made) key ne) (set_other n.numbers k n.asks key ne) (set_other n.made k n.now key ne)

  anew_change : (n m : Net) (node at : ℕ) (key : Key) → m.tickets key ≡ (if nat_eq key.client node then lost (n.tickets key) else n.tickets key)
      → m.numbers key ≡ n.numbers key → m.made key ≡ n.made key → m.restarted key.client ≡ (if nat_eq key.client node then at else n.restarted key.client)
      → (n.made key ≤ n.now → (t : ClientTransaction) → key.client ≡ node → n.tickets key ≡ Some t → n.made key < at) → Change key n m
  anew_change n m node at key tickets numbers made restarted before = go (nat_eq key.client node) refl tickets restarted
    where
      go : (b : Bool) → nat_eq key.client node ≡ b → m.tickets key ≡ (if b then lost (n.tickets key) else n.tickets key)
          → m.restarted key.client ≡ (if b then at else n.restarted key.client) → Change key n m
      go true e is from = Change.Loses is numbers made (λ on t there. let lt = before on t (grind (arith, nat_tests)) there in omega arith)
      go false e is from = Change.Same is numbers made

  pub step_change : (n m : Net) → Step x Q n m → (key : Key) → Change key n m
  step_change n _ (Asks k choice whole front rest free) key = asks_change n k (ask_of (client_now n k) choice whole front rest) free key
  step_change n _ (Serves number p free service at up q) key = Change.Same refl refl refl
  step_change n _ (Hears number p t at down there) key =
      let c = client_context x p.key (client_now n p.key) in
      acts_change n p.key t (client.client_on_apdu c x.readable t p.copy.apdu) there (gets_opens c x.readable t p.copy.apdu) key
  step_change n _ (TicksTicket k t there) key =
      let c = client_context x k (client_now n k) in acts_change n k t (client.client_ticks c t) there (ticks_opens c t) key
  step_change n _ (TicksEntry k) key = Change.Same refl refl refl
  step_change n _ (Passes by clients servers) key = Change.Same refl refl refl
  step_change n _ (Changes node change) key = Change.Same refl refl refl
  step_change n _ (RestartsClient node exact) key =
      anew_change n (client_restarted n node exact) node (n.now + 1) key refl refl refl refl (λ on t is there. omega arith)
  step_change n _ (RestartsServer node exact store) key = Change.Same refl refl refl
  step_change n _ (Strange m aside) key = Change.Same refl refl refl
  step_change n _ (BeginsClient node exact off) key = Change.Same refl refl refl
  step_change n _ (BeginsServer node exact off) key = Change.Same refl refl refl
  step_change n _ (BeginsNext node exact quiet earlier) key =
      anew_change n (next_client n node exact) node n.now key refl refl refl refl (λ on t is there. earlier key t is there)

  logged_step : (n m : Net) → Step x Q n m → Bounded n → IdleIsLogged n → IdleIsLogged m
  logged_step n m s b h key t at stays idle = go (step_change n m s key)
    where
      before : m.made key ≡ n.made key → (u : ClientTransaction) → n.tickets key ≡ Some u → ClientStays n key
      before made u there = stays_before x Q n m s b key (n.made key) (record { by_now = b.made key; sent = b.sends key u there })
          (let on = stays in omega arith)

      go : Change key n m → HasEnded (m.numbers key) m.log
      go (Change.Same e f g) =
          subst (λ (k : ℕ). HasEnded k m.log) (sym f) (ended_grows (n.numbers key) n.log m.log (step_log x Q n m s) (h key t (sym e ∙ at) (before g t (sym e ∙ at)) idle))
      go (Change.Fresh free u is opens) = let same : u ≡ t = some_is u t (sym is ∙ at) in absurd cc
      go (Change.Reacts u r was opens is f g log) =
          let same : after (client_now n key) u r ≡ t = some_is (after (client_now n key) u r) t (sym is ∙ at) in
          subst (λ (k : ℕ). HasEnded k m.log) (sym f) (subst (λ (l : List Fact). HasEnded (n.numbers key) l) (sym log)
          (after_logged (n.numbers key) (client_now n key) u r n.log opens (λ o. h key u was (before g u was) o)
          (ap (λ (y : ClientTransaction). is_idle y.phase) same ∙ idle)))
      go (Change.Loses e f g lost) =
          let u = was_there (n.tickets key) true t (sym e ∙ at) in let later = lost (b.made key) u.0 u.1 in let on = stays in absurd (omega arith)

  pub logged_path : (n m : Net) → Path x Q n m → Bounded n → IdleIsLogged n → IdleIsLogged m
  logged_path n _ Here b h = h
  logged_path n _ (Then l m p s) b h = logged_step l m s (path_bounded x Q n l p b) (logged_path n l p b h)

  -- One ask: its ticket is there, until its invoke ID is free.
  module _ (key : Key) (number : ℕ) (ask : Ask) (made : ℕ) where
    pub record IsThere (n : Net) : Type 0 where
      pub ticket : ClientTransaction
      pub at : n.tickets key ≡ Some ticket
      pub is : ticket.ask ≡ ask
      pub number_is : n.numbers key ≡ number
      pub made_is : n.made key ≡ made

    pub there_was_made : (n : Net) → Bounded n → IsThere n → WasMadeIn n key made
    there_was_made n b h =
        let is = h.made_is in
        let on = b.made key in
        let sent = b.sends key h.ticket h.at in
        record { by_now = omega arith; sent = omega arith }

    pub there_step : (n m : Net) → Step x Q n m → IsThere n → IsThere m ⊎ (is_id_held n key ≡ false)
    there_step n m s h = go (step_change n m s key)
      where
        go : Change key n m → IsThere m ⊎ (is_id_held n key ≡ false)
        go (Change.Same e f g) = inl (record { ticket = h.ticket; at = e ∙ h.at; is = h.is; number_is = f ∙ h.number_is; made_is = g ∙ h.made_is })
        go (Change.Fresh free u is opens) = inr free
        go (Change.Reacts u r was opens is f g log) =
            let same : u ≡ h.ticket = some_is u h.ticket (sym was ∙ h.at) in
            inl (record {
              ticket = after (client_now n key) u r;
              at = is;
              is = after_ask (client_now n key) u r ∙ ap (λ (y : ClientTransaction). y.ask) same ∙ h.is;
              number_is = f ∙ h.number_is;
              made_is = g ∙ h.made_is;
            })
        go (Change.Loses e f g later) = inl (record {
          ticket = record (h.ticket) { phase = Idle };
          at = e ∙ ap lost h.at;
          is = h.is;
          number_is = f ∙ h.number_is;
          made_is = g ∙ h.made_is;
        })
