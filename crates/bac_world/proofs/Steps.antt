-- A node's call keeps the bridge, where the net does the like.
use Rattle.std.proofs.Common.{◌≡◌, ℕ, ◌⊎◌, Bool, true, false, List, [], ◌∷◌, ◌++◌, length, Option, Some, None, slice_get}
use Rattle.std.proofs.Common.{nat_eq, ◌||◌, if◌then◌else◌, refl, sym, ap, subst, inl, inr, ◌∙◌, arith}
use Rattle.std.proofs.lemmas.Bool.Decides.{nat_tests}
use Rattle.std.specs.Option.{option_map}
use Rattle.bac_protocol.specs.Service.{Octets}
use Rattle.bac_protocol.specs.Client.{ClientTransaction}
use Rattle.bac_protocol.specs.Transaction.{Key, Rules}
use Rattle.bac_protocol.specs.World.{Net, set_at, with_node}
use Rattle.bac_protocol.proofs.Keys.{set_other}
use Rattle.bac_transaction.specs.Sends.{Pairwise}
use Rattle.bac_world.specs.Node.{Node, Outcome}
use Rattle.bac_world.specs.Once.{Fact, Stores, AreSame}
use Rattle.bac_world.specs.Once.Fact.{Asked, Performed, Ended, Changed, Restarted, Served, AskedAway, EndedAway}
use Rattle.bac_world.specs.ReusingLogs.{IsOnceSo, MayEnterSo, Reuses}
use Rattle.bac_world.specs.ReusingWorlds.{ActsSo, AreLoggedSo}
use Rattle.bac_world.specs.Services.{Performed as performed}
use Rattle.bac_world.specs.World.{World, IsFreshNode, Life, Time, Note, Copy, link_at, stores_of, AreLogged, IsWithNode, Acts, newest, with_act, with_life}
use Rattle.bac_world.proofs.Machines.{Sound}
use Rattle.bac_world.proofs.Settings.{Setting, ever_in}
use Rattle.bac_world.proofs.Logs.{FactMeans}
use Rattle.bac_world.proofs.Bridge.{AreIdle, Bridge, HasNothing, LifeFits, NodeFits, IsCopyOf, AwayNoted, here_at, there_at}
use Rattle.bac_protocol.specs.Pace.{Clock}

pub decide_number : (i j : ℕ) → (i ≡ j) ⊎ (i ≡ j → ⊥)
decide_number i j = go (nat_eq i j) refl
  where
    go : (b : Bool) → nat_eq i j ≡ b → (i ≡ j) ⊎ (i ≡ j → ⊥)
    go true e = inl (grind (arith, nat_tests))
    go false e = inr (λ is. grind (arith, nat_tests))

-- Nodes.

-- what all nodes have is the same, where the one that is another has it too
same_with : {A : Type 0} (of : Node → A) (old new : List Node) (i : ℕ) (a b : Node) → IsWithNode old i b new → slice_get old i ≡ Some a → of b ≡ of a
    → (j : ℕ) → option_map of (slice_get new j) ≡ option_map of (slice_get old j)
same_with of old new i a b s at same j = go (decide_number j i)
  where
    go : ((j ≡ i) ⊎ (j ≡ i → ⊥)) → option_map of (slice_get new j) ≡ option_map of (slice_get old j)
    go (inl is) = subst (λ (k : ℕ). option_map of (slice_get new k) ≡ option_map of (slice_get old k)) (sym is)
        (ap (option_map of) s.here ∙ ap Some same ∙ sym (ap (option_map of) at))
    go (inr ne) = ap (option_map of) (s.others j ne)

-- what each node has, the one that is another has too
pub each_with : (P : ℕ → Node → Type 0) (old new : List Node) (i : ℕ) (b : Node) → IsWithNode old i b new → P i b
    → ((j : ℕ) (c : Node) → slice_get old j ≡ Some c → P j c) → (j : ℕ) (c : Node) → slice_get new j ≡ Some c → P j c
each_with P old new i b s here others j c at = go (decide_number j i)
  where
    go : ((j ≡ i) ⊎ (j ≡ i → ⊥)) → P j c
    go (inl is) =
        let there : slice_get new i ≡ Some c = subst (λ (k : ℕ). slice_get new k ≡ Some c) is at in
        let same : b ≡ c = let e : Some b ≡ Some c = sym s.here ∙ there in cc in
        subst (λ (k : ℕ). P k c) (sym is) (subst (P i) same here)
    go (inr ne) = others j c (sym (s.others j ne) ∙ at)

-- at the others nothing more happened
pub idle_with : (old new : List Node) (lives next : ℕ → Life) (i : ℕ) (b : Node) (life : Life) → IsWithNode old i b new → next ≡ with_life lives i life
    → life.active ≡ true → AreIdle old lives → AreIdle new next
idle_with old new lives next i b life s is active idle j a at off = go (nat_eq j i) refl (subst (λ (f : ℕ → Life). (f j).active ≡ false) is off)
  where
    go : (c : Bool) → nat_eq j i ≡ c → (if c then life else lives j).active ≡ false → IsFreshNode a
    go true e off = absurd (let no : true ≡ false = sym active ∙ off in cc)
    go false e off = idle j a (sym (s.others j (λ same. let is : j ≡ i = same in grind (arith, nat_tests))) ∙ at) off

pub linked_with : (links : ℕ → Option Octets) (old new : List Node) (i : ℕ) (a b : Node) → IsWithNode old i b new → slice_get old i ≡ Some a
    → b.link ≡ a.link → ((j : ℕ) → link_at old j ≡ links j) → (j : ℕ) → link_at new j ≡ links j
linked_with links old new i a b s at same linked j = same_with (λ (n : Node). n.link) old new i a b s at same j ∙ linked j

pub stores_same : (old new : List Node) (i : ℕ) (a b : Node) → IsWithNode old i b new → slice_get old i ≡ Some a → b.store ≡ a.store
    → AreSame (stores_of old) (stores_of new)
stores_same old new i a b s at same j = same_with (λ (n : Node). n.store) old new i a b s at same j

-- A log that is right with the stores is right with the same stores.

enter_same : (u : Reuses) (f : Fact) (log : List Fact) (old new new' : Stores) → AreSame new new' → MayEnterSo u f log old new → MayEnterSo u f log old new'
enter_same u (Asked n c s r) log old new new' same h = (h.0, λ node. same node ∙ h.1 node)
enter_same u (Performed n r p) log old new new' same h = record {
  client = h.client;
  server = h.server;
  store = h.store;
  asked = h.asked;
  first = h.first;
  at = h.at;
  reply = h.reply;
  stores = λ node. same node ∙ h.stores node;
}
enter_same u (Ended n how) log old new new' same h = (h.0, h.1, λ node. same node ∙ h.2 node)
enter_same u (AskedAway n c q r) log old new new' same h = (h.0, λ node. same node ∙ h.1 node)
enter_same u (EndedAway n how) log old new new' same h = (h.0, h.1, λ node. same node ∙ h.2 node)
enter_same u (Changed i c) log old new new' same h =
    record { store = h.store; at = h.at; permitted = h.permitted; stores = λ node. same node ∙ h.stores node }
enter_same u (Restarted i o) log old new new' same h = λ node. same node ∙ h node
enter_same u (Served q i d b r p) log old new new' same h =
    record { store = h.store; at = h.at; reply = h.reply; stores = λ node. same node ∙ h.stores node }

pub once_same : (u : Reuses) (opening : Stores) (log : List Fact) (stores stores' : Stores) → AreSame stores stores' → IsOnceSo u opening log stores
    → IsOnceSo u opening log stores'
once_same u opening [] stores stores' same h = λ node. same node ∙ h node
once_same u opening (f ∷ log) stores stores' same h = (h.0, enter_same u f log h.0 stores stores' same h.1, h.2)

-- What a node's call does to the world, in the words of either setting.

abbrev pub acts_as : (w w' : World) (i : ℕ) (b : Node) (o : Outcome) → Acts w i b o w' → ActsSo false w i b o w'
acts_as w w' i b o acts = record {
  nodes = acts.nodes;
  time = acts.time;
  lives = acts.lives;
  notes = acts.notes;
  sent = acts.sent;
  copies = acts.copies;
  copied = acts.copied;
  between = acts.between;
  ended = acts.ended;
  logged = acts.logged;
}

pub logged_quiet : (reuse : Bool) (nodes : List Node) (notes : List Note) (i : ℕ) (b : Node) (p : Option performed) (old new : List Fact) → p ≡ None
    → AreLoggedSo reuse nodes notes i b p old new → AreLogged nodes notes i b p old new
logged_quiet false nodes notes i b p old new none logged = logged
logged_quiet true nodes notes i b None old new none logged = logged
logged_quiet true nodes notes i b (Some d) old new none logged = absurd cc

-- where nothing was performed it is the same in both
abbrev pub acts_quiet : (reuse : Bool) (w w' : World) (i : ℕ) (b : Node) (o : Outcome) → o.performed ≡ None → ActsSo reuse w i b o w' → Acts w i b o w'
acts_quiet reuse w w' i b o none acts = record {
  nodes = acts.nodes;
  time = acts.time;
  lives = acts.lives;
  notes = acts.notes;
  sent = acts.sent;
  copies = acts.copies;
  copied = acts.copied;
  between = acts.between;
  ended = acts.ended;
  logged = logged_quiet reuse w.nodes w.notes i b o.performed acts.between w'.log none acts.logged;
}

-- The bridge after a node's call.

-- time is the same in both nets, and so is what nodes did, but that server
pub record IsAlike (i : ℕ) (m n : Net) : Type 0 where
  pub now : m.now ≡ n.now
  pub pace : m.pace ≡ n.pace
  pub here : m.client_clocks ≡ n.client_clocks
  pub there : m.server_clocks ≡ n.server_clocks
  pub asked : m.asked ≡ n.asked
  pub served : (j : ℕ) → nat_eq j i ≡ false → m.served j ≡ n.served j
  pub sends : m.sends_until ≡ n.sends_until
  pub tickets : (k : Key) → nat_eq k.client i ≡ false → m.tickets k ≡ n.tickets k
  pub far_tickets : (k : Key) → nat_eq k.client i ≡ false → m.far.tickets k ≡ n.far.tickets k
  pub entries : (k : Key) → nat_eq k.server i ≡ false → m.entries k ≡ n.entries k
  pub far_entries : (k : Key) → nat_eq k.server i ≡ false → m.far.entries k ≡ n.far.entries k

-- what one node has changes at no other one
pub set_elsewhere : {A : Type 0} (of : Key → ℕ) (f : Key → A) (key : Key) (a : A) (k : Key) → nat_eq (of k) (of key) ≡ false → set_at f key a k ≡ f k
set_elsewhere of f key a k ne = set_other f key a k (λ same. let is : of key ≡ of k = ap of same in grind (arith, nat_tests))

-- what a server does is not done by others
pub served_elsewhere : (i : ℕ) (served : ℕ → Bool) (j : ℕ) → nat_eq j i ≡ false → with_node i served j ≡ served j
served_elsewhere i served j ne = ap (λ (b : Bool). b || served j) ne

module _ (links : ℕ → Option Octets) (apart : (i j : ℕ) (l : Octets) → links i ≡ Some l → links j ≡ Some l → i ≡ j) (W : ℕ) (x : Rules)
    (set : Setting) where
  abbrev pub Over : World → Net → Type 0
  Over w n = Bridge links apart W x set w n

  abbrev pub Fits : World → Net → Net → ℕ → Node → Type 0
  Fits w n m i a = NodeFits links apart x (here_at n i) (there_at n i) w.notes m i a

  -- the world goes on, and the bridge with it to that net, and the log stays right
  pub record Goes (w w' : World) (m : Net) : Type 0 where
    pub bridge : Over w' m
    pub once : (opening : Stores) → IsOnceSo (ever_in set) opening w.log (stores_of w.nodes) → IsOnceSo (ever_in set) opening w'.log (stores_of w'.nodes)

  -- something happened at a node, and nothing is known of it that is not known of the others
  pub lives_on : (n m : Net) (i : ℕ) (old new : ℕ → Life) → IsAlike i m n → new ≡ with_act old i → ((j : ℕ) → LifeFits n j (old j))
      → (j : ℕ) → LifeFits m j (new j)
  lives_on n m i old new alike is h j = subst (λ (lives : ℕ → Life). LifeFits m j (lives j)) (sym is) (go (nat_eq j i) refl)
    where
      elsewhere : (at : ℕ) → at ≡ j → nat_eq j i ≡ false → nat_eq at i ≡ false
      elsewhere at is ne = ap (λ (k : ℕ). nat_eq k i) is ∙ ne

      sends : m.sends_until j ≡ (old j).sends_until
      sends = ap (λ (f : ℕ → ℕ). f j) alike.sends ∙ (h j).sends

      go : (b : Bool) → nat_eq j i ≡ b → LifeFits m j (if b then record { active = true; sends_until = (old i).sends_until } else old j)
      go true e = record {
        active = λ off. absurd cc;
        none = λ off. absurd cc;
        sends = sends ∙ ap (λ (k : ℕ). (old k).sends_until) (let same : j ≡ i = grind (arith, nat_tests) in same);
      }
      go false e = record {
        active = λ off. ap (λ (f : ℕ → Bool). f j || m.served j) alike.asked ∙ ap (λ (b : Bool). n.asked j || b) (alike.served j e) ∙ (h j).active off;
        sends = sends;
        none = λ off. let old : HasNothing n j = (h j).none off in record {
          tickets = λ k is. alike.tickets k (elsewhere k.client is e) ∙ old.tickets k is;
          far_tickets = λ k is. alike.far_tickets k (elsewhere k.client is e) ∙ old.far_tickets k is;
          entries = λ k is. alike.entries k (elsewhere k.server is e) ∙ old.entries k is;
          far_entries = λ k is. alike.far_entries k (elsewhere k.server is e) ∙ old.far_entries k is;
        };
      }

  abbrev pub Next : World → World → Type 0
  Next w w' = (m : Net) × Goes w w' m

  pub acts_over : (reuse : Bool) (w w' : World) (n m : Net) → Over w n → (i : ℕ) (a b : Node) (o : Outcome) → slice_get w.nodes i ≡ Some a
      → (acts : ActsSo reuse w i b o w')
      → IsAlike i m n → m.asks ≡ n.asks → ((key : Key) (t : ClientTransaction) → m.tickets key ≡ Some t → newest key w.notes ≡ Some (m.numbers key))
      → AwayNoted w.notes m
      → b.link ≡ a.link
      → Fits w n m i b
      → ((j : ℕ) (c : Node) → (j ≡ i → ⊥) → Fits w n n j c → Fits w n m j c)
      → Pairwise (IsCopyOf links apart) m.posts (w.copies ++ acts.sent)
      → Pairwise (FactMeans set) m.log w'.log
      → Sound W x set m
      → Over w' m
  acts_over reuse w w' n m h i a b o at acts alike asks noted away link here others posts log sound = record {
    now = alike.now ∙ h.now ∙ sym (ap (λ (t : Time). t.now) acts.time);
    pace = alike.pace ∙ h.pace ∙ sym (ap (λ (t : Time). t.pace) acts.time);
    here = λ j. ap (λ (f : ℕ → Clock). f j) alike.here ∙ h.here j ∙ sym (ap (λ (t : Time). t.clocks j) acts.time);
    there = λ j. ap (λ (f : ℕ → Clock). f j) alike.there ∙ h.there j ∙ sym (ap (λ (t : Time). t.clocks j) acts.time);
    lives = lives_on n m i w.lives w'.lives alike acts.lives h.lives;
    idle = idle_with w.nodes w'.nodes w.lives w'.lives i b (record { active = true; sends_until = (w.lives i).sends_until }) acts.nodes acts.lives refl h.idle;
    asks = asks ∙ h.asks ∙ sym (ap (λ (l : List Note). length l) acts.notes);
    linked = linked_with links w.nodes w'.nodes i a b acts.nodes at link h.linked;
    nodes = λ j c at'.
        subst (λ (t : ℕ). NodeFits links apart x t (there_at m j) w'.notes m j c) (sym (ap (λ (f : ℕ → Clock). (f j).shows) alike.here))
        (subst (λ (t : ℕ). NodeFits links apart x (here_at n j) t w'.notes m j c) (sym (ap (λ (f : ℕ → Clock). (f j).shows) alike.there))
        (subst (λ (l : List Note). NodeFits links apart x (here_at n j) (there_at n j) l m j c) (sym acts.notes) (fits j c at' (decide_number j i))));
    noted = λ key t is. ap (newest key) acts.notes ∙ noted key t is;
    away = subst (λ (l : List Note). AwayNoted l m) (sym acts.notes) away;
    posts = subst (λ (l : List Copy). Pairwise (IsCopyOf links apart) m.posts l) (sym acts.copies) posts;
    log = log;
    sound = sound;
  }
    where
      fits : (j : ℕ) (c : Node) → slice_get w'.nodes j ≡ Some c → ((j ≡ i) ⊎ (j ≡ i → ⊥)) → Fits w n m j c
      fits j c at' (inl is) =
          let there : slice_get w'.nodes i ≡ Some c = subst (λ (k : ℕ). slice_get w'.nodes k ≡ Some c) is at' in
          let same : b ≡ c = let e : Some b ≡ Some c = sym acts.nodes.here ∙ there in cc in
          subst (λ (k : ℕ). Fits w n m k c) (sym is) (subst (λ (d : Node). Fits w n m i d) same here)
      fits j c at' (inr ne) = others j c ne (h.nodes j c (sym (acts.nodes.others j ne) ∙ at'))
