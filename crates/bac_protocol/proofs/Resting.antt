-- What a node has whose client never asked, and one whose server never served.
use Rattle.std.proofs.Common.{◌≡◌, ℕ, ◌+◌, ◌⊎◌, Bool, true, false, ◌||◌, Option, Some, None, if◌then◌else◌, nat_eq, min, refl, sym, ap, inl, inr, ◌∙◌, arith}
use Rattle.std.proofs.lemmas.Bool.Decides.{nat_tests}
use Rattle.bac_protocol.specs.Client.{ClientTransaction}
use Rattle.bac_protocol.specs.Server.{ServerTransaction}
use Rattle.bac_protocol.specs.Transaction.{Key}
use Rattle.bac_protocol.specs.World.{Net, set_at, with_node, is_active, lost}
use Rattle.bac_protocol.proofs.Keys.{decide_key, set_same, set_other}

-- a client that never asked has no ticket, never restarted, and sends nothing
pub record IsUnasked (ts : Key → Option ClientTransaction) (rs ss : ℕ → ℕ) (node : ℕ) : Type 0 where
  pub tickets : (key : Key) → key.client ≡ node → ts key ≡ None
  pub restarted : rs node ≡ 0
  pub sends : ss node ≡ 0

-- a server that never served has no entry, of nodes or of strangers, and never restarted
pub record IsUnserved (es fs : Key → Option ServerTransaction) (os : ℕ → ℕ) (node : ℕ) : Type 0 where
  pub entries : (key : Key) → key.server ≡ node → es key ≡ None
  pub away : (key : Key) → key.server ≡ node → fs key ≡ None
  pub opens : os node ≡ 0

abbrev pub UnaskedIn : (asked : ℕ → Bool) (tickets : Key → Option ClientTransaction) (restarted sends : ℕ → ℕ) → Type 0
UnaskedIn asked tickets restarted sends = (node : ℕ) → asked node ≡ false → IsUnasked tickets restarted sends node

abbrev pub UnservedIn : (served : ℕ → Bool) (entries away : Key → Option ServerTransaction) (opens : ℕ → ℕ) → Type 0
UnservedIn served entries away opens = (node : ℕ) → served node ≡ false → IsUnserved entries away opens node

abbrev pub Unasked : Net → Type 0
Unasked n = UnaskedIn n.asked n.tickets n.restarted n.sends_until

abbrev pub Unserved : Net → Type 0
Unserved n = UnservedIn n.served n.entries n.far.entries n.serves_from

apart : (b d : Bool) → (b || d) ≡ false → (b ≡ false) × (d ≡ false)
apart true d e = absurd cc
apart false d e = (refl, e)

-- a node that is not active neither asked nor served
pub not_active : (n : Net) (node : ℕ) → is_active n node ≡ false → (n.asked node ≡ false) × (n.served node ≡ false)
not_active n node off = apart (n.asked node) (n.served node) off

-- another node, and one that was not among them
other : (node : ℕ) (nodes : ℕ → Bool) (m : ℕ) → with_node node nodes m ≡ false → (nat_eq m node ≡ false) × (nodes m ≡ false)
other node nodes m off = apart (nat_eq m node) (nodes m) off

-- there is nothing at a place where there was nothing, but where it is set
unset : {A : Type 0} (f : Key → Option A) (key : Key) (o : Option A) (k : Key) → (key ≡ k → o ≡ None) → f k ≡ None → set_at f key o k ≡ None
unset f key o k here there = go (decide_key key k)
  where
    go : ((key ≡ k) ⊎ (key ≡ k → ⊥)) → set_at f key o k ≡ None
    go (inl is) = sym (ap (λ j. set_at f key o j) is) ∙ set_same f key o ∙ here is
    go (inr ne) = set_other f key o k ne ∙ there

-- no key of another node is that one
elsewhere : (of : Key → ℕ) (key k : Key) (m : ℕ) → nat_eq m (of key) ≡ false → of k ≡ m → key ≡ k → ⊥
elsewhere of key k m ne is same = let at : of key ≡ m = ap of same ∙ is in grind (arith, nat_tests)

-- Clients.

module _ (n : Net) (s : Unasked n) where
  -- others have asked
  pub unasked_more : (node : ℕ) → UnaskedIn (with_node node n.asked) n.tickets n.restarted n.sends_until
  unasked_more node m off = s m (other node n.asked m off).1

  -- a ticket that is there changes
  pub unasked_acts : (key : Key) (t : ClientTransaction) → n.tickets key ≡ Some t → (o : Option ClientTransaction)
      → UnaskedIn n.asked (set_at n.tickets key o) n.restarted n.sends_until
  unasked_acts key t at o node off = record {
    tickets = λ k is. unset n.tickets key o k
        (λ same. absurd (let none = old.tickets key (ap (λ (j : Key). j.client) same ∙ is) in cc)) (old.tickets k is);
    restarted = old.restarted;
    sends = old.sends;
  }
    where
      old : IsUnasked n.tickets n.restarted n.sends_until node
      old = s node off

  -- a client asks
  pub unasked_asks : (key : Key) (o : Option ClientTransaction) (until : ℕ) → UnaskedIn (with_node key.client n.asked) (set_at n.tickets key o) n.restarted
      (λ m. if nat_eq m key.client then until else n.sends_until m)
  unasked_asks key o until node off = record {
    tickets = λ k is. unset n.tickets key o k (λ same. absurd (elsewhere (λ (j : Key). j.client) key k node no is same)) (old.tickets k is);
    restarted = old.restarted;
    sends = ap (λ b. if b then until else n.sends_until node) no ∙ old.sends;
  }
    where
      no : nat_eq node key.client ≡ false
      no = (other key.client n.asked node off).0

      old : IsUnasked n.tickets n.restarted n.sends_until node
      old = s node (other key.client n.asked node off).1

  -- a client begins anew
  pub unasked_anew : (node at : ℕ) (sends : ℕ → ℕ) → ((m : ℕ) → nat_eq m node ≡ false → n.sends_until m ≡ 0 → sends m ≡ 0)
      → UnaskedIn (with_node node n.asked) (λ key. if nat_eq key.client node then lost (n.tickets key) else n.tickets key)
      (λ m. if nat_eq m node then at else n.restarted m) sends
  unasked_anew node at sends still m off = record {
    tickets = λ k is. go (nat_eq k.client node) (n.tickets k) (old.tickets k is);
    restarted = ap (λ b. if b then at else n.restarted m) (other node n.asked m off).0 ∙ old.restarted;
    sends = still m (other node n.asked m off).0 old.sends;
  }
    where
      old : IsUnasked n.tickets n.restarted n.sends_until m
      old = s m (other node n.asked m off).1

      go : (b : Bool) (o : Option ClientTransaction) → o ≡ None → (if b then lost o else o) ≡ None
      go true None e = refl
      go true (Some t) e = absurd cc
      go false o e = e

  -- it restarts
  pub unasked_restarts : (node : ℕ) → UnaskedIn (with_node node n.asked) (λ key. if nat_eq key.client node then lost (n.tickets key) else n.tickets key)
      (λ m. if nat_eq m node then n.now + 1 else n.restarted m) (λ m. if nat_eq m node then min (n.sends_until m) (n.now + 1) else n.sends_until m)
  unasked_restarts node = unasked_anew node (n.now + 1) (λ m. if nat_eq m node then min (n.sends_until m) (n.now + 1) else n.sends_until m)
      (λ m other none. ap (λ b. if b then min (n.sends_until m) (n.now + 1) else n.sends_until m) other ∙ none)

-- Servers.

module _ (n : Net) (s : Unserved n) where
  -- others have served
  pub unserved_more : (node : ℕ) → UnservedIn (with_node node n.served) n.entries n.far.entries n.serves_from
  unserved_more node m off = s m (other node n.served m off).1

  -- a server's entry changes
  pub unserved_acts : (key : Key) (o : Option ServerTransaction)
      → UnservedIn (with_node key.server n.served) (set_at n.entries key o) n.far.entries n.serves_from
  unserved_acts key o node off = record {
    entries = λ k is. unset n.entries key o k (λ same. absurd (elsewhere (λ (j : Key). j.server) key k node no is same)) (old.entries k is);
    away = old.away;
    opens = old.opens;
  }
    where
      no : nat_eq node key.server ≡ false
      no = (other key.server n.served node off).0

      old : IsUnserved n.entries n.far.entries n.serves_from node
      old = s node (other key.server n.served node off).1

  -- the same of strangers
  pub unserved_acts_away : (key : Key) (o : Option ServerTransaction)
      → UnservedIn (with_node key.server n.served) n.entries (set_at n.far.entries key o) n.serves_from
  unserved_acts_away key o node off = record {
    entries = old.entries;
    away = λ k is. unset n.far.entries key o k (λ same. absurd (elsewhere (λ (j : Key). j.server) key k node no is same)) (old.away k is);
    opens = old.opens;
  }
    where
      no : nat_eq node key.server ≡ false
      no = (other key.server n.served node off).0

      old : IsUnserved n.entries n.far.entries n.serves_from node
      old = s node (other key.server n.served node off).1

  -- a server restarts
  pub unserved_restarts : (node from : ℕ) → UnservedIn (with_node node n.served) (λ key. if nat_eq key.server node then None else n.entries key)
      (λ key. if nat_eq key.server node then None else n.far.entries key) (λ m. if nat_eq m node then from else n.serves_from m)
  unserved_restarts node from m off = record {
    entries = λ k is. go (nat_eq k.server node) (n.entries k) (old.entries k is);
    away = λ k is. go (nat_eq k.server node) (n.far.entries k) (old.away k is);
    opens = ap (λ b. if b then from else n.serves_from m) (other node n.served m off).0 ∙ old.opens;
  }
    where
      old : IsUnserved n.entries n.far.entries n.serves_from m
      old = s m (other node n.served m off).1

      go : (b : Bool) (o : Option ServerTransaction) → o ≡ None → (if b then None else o) ≡ None
      go true o e = refl
      go false o e = e
