-- What a log of octets says of an ask, as values.
use Rattle.std.specs.Prelude.{None}
use Rattle.std.proofs.Common.{◌≡◌, ℕ, true, List, [], ◌∷◌, refl, sym, ap, subst, inl, inr, ◌∙◌}
use Rattle.bac_service.specs.Values.{Request, Complex, choice_of, complex_choice_of}
use Rattle.bac_service.specs.Values.Complex.{FileRead, StreamWritten, RecordsWritten, PropertyRead}
use Rattle.bac_service.specs.Choices.{has_simple_ack, has_complex_ack}
use Rattle.bac_service.specs.Replies as plain
use Rattle.bac_service.specs.Requests.{SpellsRequest}
use Rattle.bac_service.specs.Services.{reads_reply, is_read}
use Rattle.bac_service.proofs.OnlySpelling.{one_request}
use Rattle.bac_service.proofs.Wholes.{complex_again}
use Rattle.bac_store.specs.Stores.{Store}
use Rattle.bac_store.specs.Replies.{reply_to}
use Rattle.bac_store.specs.ReplyKinds.{FitsChoice}
use Rattle.bac_store.proofs.ReplyKinds.{replies_fit}
use Rattle.bac_protocol.specs.Service as machine
use Rattle.bac_protocol.specs.Log as octets
use Rattle.bac_protocol.specs.Straight.{KindFits}
use Rattle.bac_transaction.specs.Sends.{Pairwise}
use Rattle.bac_transaction.specs.Meanings.{MeansReply}
use Rattle.bac_transaction.specs.Meanings.Ending.{Answered, Rejected, Aborted, TimedOut, Expired}
use Rattle.bac_world.specs.Once.{Fact, Has, Stores, IsUnperformed, IsOnce}
use Rattle.bac_world.specs.Once.Fact.{Asked, Performed, Ended, Changed, Restarted, Served, AskedAway, EndedAway}
use Rattle.bac_world.proofs.Logs.{FactMeans, performed_as}
use Rattle.bac_liveness.specs.WorldRoundTrip.{IsAnswered}

-- In a log that is right.

pub not_performed : (n : ℕ) (r : Request) (p : plain.Reply) (log : List Fact) → IsUnperformed n log → Has (Performed n r p) log → ⊥
not_performed n r p [] u h = h
not_performed n r p (Asked m c s q ∷ log) u (inl e) = absurd cc
not_performed n r p (Asked m c s q ∷ log) u (inr h) = not_performed n r p log u h
not_performed n r p (Performed m q v ∷ log) u (inl e) = u.0 (let same : m ≡ n = cc in same)
not_performed n r p (Performed m q v ∷ log) u (inr h) = not_performed n r p log u.1 h
not_performed n r p (Ended m how ∷ log) u (inl e) = absurd cc
not_performed n r p (Ended m how ∷ log) u (inr h) = not_performed n r p log u h
not_performed n r p (Changed i c ∷ log) u (inl e) = absurd cc
not_performed n r p (Changed i c ∷ log) u (inr h) = not_performed n r p log u h
not_performed n r p (Restarted i o ∷ log) u (inl e) = absurd cc
not_performed n r p (Restarted i o ∷ log) u (inr h) = not_performed n r p log u h
not_performed n r p (Served z i d b q v ∷ log) u (inl e) = absurd cc
not_performed n r p (Served z i d b q v ∷ log) u (inr h) = not_performed n r p log u h
not_performed n r p (AskedAway m c z q ∷ log) u (inl e) = absurd cc
not_performed n r p (AskedAway m c z q ∷ log) u (inr h) = not_performed n r p log u h
not_performed n r p (EndedAway m how ∷ log) u (inl e) = absurd cc
not_performed n r p (EndedAway m how ∷ log) u (inr h) = not_performed n r p log u h

-- an ask is performed with one reply
performed_once : (opening stores : Stores) (n : ℕ) (q r : Request) (a b : plain.Reply) (log : List Fact) → IsOnce opening log stores
    → Has (Performed n q a) log → Has (Performed n r b) log → a ≡ b
performed_once opening stores n q r a b [] once h k = absurd h
performed_once opening stores n q r a b (Asked m c s y ∷ log) once (inl e) k = absurd cc
performed_once opening stores n q r a b (Asked m c s y ∷ log) once (inr h) (inl e) = absurd cc
performed_once opening stores n q r a b (Asked m c s y ∷ log) once (inr h) (inr k) = performed_once opening once.0 n q r a b log once.2 h k
performed_once opening stores n q r a b (Ended m how ∷ log) once (inl e) k = absurd cc
performed_once opening stores n q r a b (Ended m how ∷ log) once (inr h) (inl e) = absurd cc
performed_once opening stores n q r a b (Ended m how ∷ log) once (inr h) (inr k) = performed_once opening once.0 n q r a b log once.2 h k
performed_once opening stores n q r a b (Changed i c ∷ log) once (inl e) k = absurd cc
performed_once opening stores n q r a b (Changed i c ∷ log) once (inr h) (inl e) = absurd cc
performed_once opening stores n q r a b (Changed i c ∷ log) once (inr h) (inr k) = performed_once opening once.0 n q r a b log once.2 h k
performed_once opening stores n q r a b (Restarted i o ∷ log) once (inl e) k = absurd cc
performed_once opening stores n q r a b (Restarted i o ∷ log) once (inr h) (inl e) = absurd cc
performed_once opening stores n q r a b (Restarted i o ∷ log) once (inr h) (inr k) = performed_once opening once.0 n q r a b log once.2 h k
performed_once opening stores n q r a b (Served z i d t y v ∷ log) once (inl e) k = absurd cc
performed_once opening stores n q r a b (Served z i d t y v ∷ log) once (inr h) (inl e) = absurd cc
performed_once opening stores n q r a b (Served z i d t y v ∷ log) once (inr h) (inr k) = performed_once opening once.0 n q r a b log once.2 h k
performed_once opening stores n q r a b (AskedAway m c z y ∷ log) once (inl e) k = absurd cc
performed_once opening stores n q r a b (AskedAway m c z y ∷ log) once (inr h) (inl e) = absurd cc
performed_once opening stores n q r a b (AskedAway m c z y ∷ log) once (inr h) (inr k) = performed_once opening once.0 n q r a b log once.2 h k
performed_once opening stores n q r a b (EndedAway m how ∷ log) once (inl e) k = absurd cc
performed_once opening stores n q r a b (EndedAway m how ∷ log) once (inr h) (inl e) = absurd cc
performed_once opening stores n q r a b (EndedAway m how ∷ log) once (inr h) (inr k) = performed_once opening once.0 n q r a b log once.2 h k
performed_once opening stores n q r a b (Performed m y v ∷ log) once (inl e) (inl f) = let one : v ≡ a = cc in let two : v ≡ b = cc in sym one ∙ two
performed_once opening stores n q r a b (Performed m y v ∷ log) once (inl e) (inr k) =
    let same : m ≡ n = cc in absurd (not_performed m r b log once.1.first (subst (λ (i : ℕ). Has (Performed i r b) log) (sym same) k))
performed_once opening stores n q r a b (Performed m y v ∷ log) once (inr h) (inl e) =
    let same : m ≡ n = cc in absurd (not_performed m q a log once.1.first (subst (λ (i : ℕ). Has (Performed i q a) log) (sym same) h))
performed_once opening stores n q r a b (Performed m y v ∷ log) once (inr h) (inr k) = performed_once opening once.0 n q r a b log once.2 h k

-- with that of a store
performed_by_store : (opening stores : Stores) (n : ℕ) (r : Request) (p : plain.Reply) (log : List Fact) → IsOnce opening log stores
    → Has (Performed n r p) log → (s : Store) × (p ≡ reply_to s r)
performed_by_store opening stores n r p [] once h = absurd h
performed_by_store opening stores n r p (Asked m c s q ∷ log) once (inl e) = absurd cc
performed_by_store opening stores n r p (Asked m c s q ∷ log) once (inr h) = performed_by_store opening once.0 n r p log once.2 h
performed_by_store opening stores n r p (Ended m how ∷ log) once (inl e) = absurd cc
performed_by_store opening stores n r p (Ended m how ∷ log) once (inr h) = performed_by_store opening once.0 n r p log once.2 h
performed_by_store opening stores n r p (Changed i c ∷ log) once (inl e) = absurd cc
performed_by_store opening stores n r p (Changed i c ∷ log) once (inr h) = performed_by_store opening once.0 n r p log once.2 h
performed_by_store opening stores n r p (Restarted i o ∷ log) once (inl e) = absurd cc
performed_by_store opening stores n r p (Restarted i o ∷ log) once (inr h) = performed_by_store opening once.0 n r p log once.2 h
performed_by_store opening stores n r p (Served z i d b q v ∷ log) once (inl e) = absurd cc
performed_by_store opening stores n r p (Served z i d b q v ∷ log) once (inr h) = performed_by_store opening once.0 n r p log once.2 h
performed_by_store opening stores n r p (AskedAway m c z q ∷ log) once (inl e) = absurd cc
performed_by_store opening stores n r p (AskedAway m c z q ∷ log) once (inr h) = performed_by_store opening once.0 n r p log once.2 h
performed_by_store opening stores n r p (EndedAway m how ∷ log) once (inl e) = absurd cc
performed_by_store opening stores n r p (EndedAway m how ∷ log) once (inr h) = performed_by_store opening once.0 n r p log once.2 h
performed_by_store opening stores n r p (Performed m q v ∷ log) once (inl e) =
    let request : q ≡ r = cc in
    let reply : v ≡ p = cc in
    (once.1.store, sym reply ∙ once.1.reply ∙ ap (reply_to once.1.store) request)
performed_by_store opening stores n r p (Performed m q v ∷ log) once (inr h) = performed_by_store opening once.0 n r p log once.2 h

-- an answer is that with which the ask was performed
answered_with : (opening stores : Stores) (n : ℕ) (p : plain.Reply) (log : List Fact) → IsOnce opening log stores → Has (Ended n (Answered p)) log
    → (r : Request) × Has (Performed n r p) log
answered_with opening stores n p [] once h = absurd h
answered_with opening stores n p (Asked m c s q ∷ log) once (inl e) = absurd cc
answered_with opening stores n p (Asked m c s q ∷ log) once (inr h) =
    let again = answered_with opening once.0 n p log once.2 h in (again.0, inr again.1)
answered_with opening stores n p (Performed m q v ∷ log) once (inl e) = absurd cc
answered_with opening stores n p (Performed m q v ∷ log) once (inr h) =
    let again = answered_with opening once.0 n p log once.2 h in (again.0, inr again.1)
answered_with opening stores n p (Ended m how ∷ log) once (inr h) =
    let again = answered_with opening once.0 n p log once.2 h in (again.0, inr again.1)
answered_with opening stores n p (Changed i c ∷ log) once (inl e) = absurd cc
answered_with opening stores n p (Changed i c ∷ log) once (inr h) =
    let again = answered_with opening once.0 n p log once.2 h in (again.0, inr again.1)
answered_with opening stores n p (Restarted i o ∷ log) once (inl e) = absurd cc
answered_with opening stores n p (Restarted i o ∷ log) once (inr h) =
    let again = answered_with opening once.0 n p log once.2 h in (again.0, inr again.1)
answered_with opening stores n p (Served z i d b q v ∷ log) once (inl e) = absurd cc
answered_with opening stores n p (Served z i d b q v ∷ log) once (inr h) =
    let again = answered_with opening once.0 n p log once.2 h in (again.0, inr again.1)
answered_with opening stores n p (AskedAway m c z q ∷ log) once (inl e) = absurd cc
answered_with opening stores n p (AskedAway m c z q ∷ log) once (inr h) =
    let again = answered_with opening once.0 n p log once.2 h in (again.0, inr again.1)
answered_with opening stores n p (EndedAway m how ∷ log) once (inl e) = absurd cc
answered_with opening stores n p (EndedAway m how ∷ log) once (inr h) =
    let again = answered_with opening once.0 n p log once.2 h in (again.0, inr again.1)
answered_with opening stores n p (Ended m (Answered v) ∷ log) once (inl e) =
    let same : m ≡ n = cc in
    let reply : v ≡ p = cc in
    let may = once.1.0 in
    (may.0, inr (subst (λ (k : ℕ). Has (Performed k may.0 p) log) same (subst (λ (y : plain.Reply). Has (Performed m may.0 y) log) reply may.1)))
answered_with opening stores n p (Ended m (Rejected a) ∷ log) once (inl e) = absurd cc
answered_with opening stores n p (Ended m (Aborted a) ∷ log) once (inl e) = absurd cc
answered_with opening stores n p (Ended m TimedOut ∷ log) once (inl e) = absurd cc
answered_with opening stores n p (Ended m Expired ∷ log) once (inl e) = absurd cc

-- Between the logs.

-- an answer in octets is one as a value
answered_as : (n : ℕ) (p : machine.Reply) (log : List octets.Fact) (values : List Fact) → Pairwise (FactMeans None) log values
    → octets.Has (octets.Fact.Ended n (machine.Ending.Answered p)) log → (v : plain.Reply) × Has (Ended n (Answered v)) values
answered_as n p [] values h k = absurd k
answered_as n p (f ∷ log) [] h k = absurd h
answered_as n p (f ∷ log) (v ∷ values) h (inr k) = let again = answered_as n p log values h.1 k in (again.0, inr again.1)
answered_as n p (f ∷ log) (v ∷ values) h (inl e) = go v (subst (λ (g : octets.Fact). FactMeans None g v) e h.0)
  where
    go : (v : Fact) → FactMeans None (octets.Fact.Ended n (machine.Ending.Answered p)) v → (y : plain.Reply) × Has (Ended n (Answered y)) (v ∷ values)
    go (Asked m d u r) h = absurd h
    go (Performed m r y) h = absurd h
    go (Changed i c) h = absurd h
    go (Restarted i o) h = absurd h
    go (Served z i d b r y) h = absurd h
    go (AskedAway m d z r) h = absurd h
    go (EndedAway m y) h = absurd h
    go (Ended m (Answered y)) h = (y, inl (ap (λ (k : ℕ). Ended k (Answered y)) h.0))
    go (Ended m (Rejected a)) h = absurd h.1.1
    go (Ended m (Aborted a)) h = absurd h.1.1
    go (Ended m TimedOut) h = absurd h.1.1
    go (Ended m Expired) h = absurd h.1.1

-- a store's reply is of the kind of the service choice, and can be read
pub reply_kind : (choice : ℕ) (text : machine.Octets) (s : Store) (r : Request) (p : machine.Reply) (v : plain.Reply) → SpellsRequest choice r text
    → v ≡ reply_to s r → MeansReply choice p v → KindFits reads_reply choice p
reply_kind choice text s r p v spelled by means = go p v means fits
  where
    fits : FitsChoice choice v
    fits = subst (λ (k : ℕ). FitsChoice k v) (sym spelled.choice_is)
        (subst (λ (y : plain.Reply). FitsChoice (choice_of r) y) (sym by) (replies_fit s r))

    complex : (c : Complex) → has_complex_ack (complex_choice_of c) ≡ true
    complex (FileRead e start bytes) = refl
    complex (StreamWritten start) = refl
    complex (RecordsWritten start) = refl
    complex (PropertyRead reference values) = refl

    go : (p : machine.Reply) (v : plain.Reply) → MeansReply choice p v → FitsChoice choice v → KindFits reads_reply choice p
    go machine.Reply.Simple plain.Reply.Simple m f = ap has_simple_ack f
    go (machine.Reply.Complex bytes) (plain.Reply.Complex c) m f = (ap has_complex_ack f ∙ complex c, ap is_read (complex_again choice bytes c m))
    go (machine.Reply.Error class code) v m f = tt
    go machine.Reply.Simple (plain.Reply.Complex c) m f = absurd m
    go machine.Reply.Simple (plain.Reply.Error a b) m f = absurd m
    go machine.Reply.Simple (plain.Reply.Reject a) m f = absurd m
    go (machine.Reply.Complex bytes) plain.Reply.Simple m f = absurd m
    go (machine.Reply.Complex bytes) (plain.Reply.Error a b) m f = absurd m
    go (machine.Reply.Complex bytes) (plain.Reply.Reject a) m f = absurd m

module _ (opening stores : Stores) (n : ℕ) (q : machine.Request) (p : machine.Reply) (log : List octets.Fact) (values : List Fact)
    (means : Pairwise (FactMeans None) log values) (once : IsOnce opening values stores) (performed : octets.Has (octets.Fact.Performed n q p) log) where
  -- performed and answered
  pub answered_values : (r : Request) → SpellsRequest q.choice r q.service → octets.Has (octets.Fact.Ended n (machine.Ending.Answered p)) log
      → IsAnswered n r values
  answered_values r spelled ended =
      let was = performed_as None n q p log values means performed in
      let now = answered_as n p log values means ended in
      let by = answered_with opening stores n now.0 values once now.1 in
      let same : now.0 ≡ was.reply = performed_once opening stores n by.0 was.request now.0 was.reply values once by.1 was.has in
      record {
        reply = was.reply;
        performed = subst (λ (y : Request). Has (Performed n y was.reply) values) (one_request q.choice was.request r q.service was.spelled spelled) was.has;
        ended = subst (λ (y : plain.Reply). Has (Ended n (Answered y)) values) same now.1;
      }

  -- the reply is of the kind of the service choice, and can be read
  pub kind_fits : KindFits reads_reply q.choice p
  kind_fits =
      let was = performed_as None n q p log values means performed in
      let by = performed_by_store opening stores n was.request was.reply values once was.has in
      reply_kind q.choice q.service by.0 was.request p was.reply was.spelled by.1 was.means
