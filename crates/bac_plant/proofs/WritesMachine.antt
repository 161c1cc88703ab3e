-- What the server's machine of either setting makes of an APDU, where an entry keeps the reply to a write.
use Rattle.std.proofs.Common.{◌≡◌, ℕ, ◌+◌, ◌-◌, ◌≤◌, ◌⊎◌, Bool, true, false, ◌&&◌, ◌||◌, not, Option, Some, None, if◌then◌else◌, nat_eq, nat_le}
use Rattle.std.proofs.Common.{refl, sym, ap, subst, inl, inr, ◌∙◌, arith}
use Rattle.std.proofs.lemmas.Bool.Decides.{nat_tests}
use Rattle.std.proofs.lemmas.Slice.Eq.{bytes_eq-Decides}
use Rattle.std.specs.Prelude.{is_some}
use Rattle.std.specs.Str.{bytes_eq}
use Rattle.bac_apdu.specs.Apdu.{Apdu, Limits, Segment}
use Rattle.bac_apdu.specs.Apdu.Apdu.{Abort, ConfirmedRequest, SegmentAck}
use Rattle.bac_protocol.specs.declared.times.TheConstants.{KEEP}
use Rattle.bac_protocol.specs.Context.{Context}
use Rattle.bac_protocol.specs.Reuse.{ends_entry, goes_in_segments, idle_on_read, idle_reusing, is_acknowledged_by, is_ended_by, is_of_whole_read}
use Rattle.bac_protocol.specs.Reuse.{is_other_first, is_over, left_on_apdu, server_hears}
use Rattle.bac_protocol.specs.Server.{Effect, Reaction, ServerTransaction, Service, State, idle_on_request, is_kept, is_live, is_none_live, live_entry, server_on_apdu}
use Rattle.bac_protocol.specs.Server.{server_ticks}
use Rattle.bac_protocol.specs.Server as server
use Rattle.bac_protocol.specs.Server.State.{Done, Dropped, SegmentedResponse}
use Rattle.bac_protocol.specs.Service.{Octets}
use Rattle.bac_protocol.specs.Steps.{BeginsWith, IsEffect, IsEntryFor, IsSegmentedRequest, KeepsReply, MayPerform, StaysIn}
use Rattle.bac_protocol.proofs.Reused.{goes_on_where, segment_stays}
use Rattle.bac_protocol.proofs.Served.{effects_are_kept, live_stays_law}
use Rattle.bac_transaction.specs.Reuse.{is_read}
use Rattle.bac_transaction.proofs.ServerTables.{idle_is}
use Rattle.bac_plant.specs.Writes.{IsNoOther, IsNoOtherThan, KeptOctets, kept_by}
use Rattle.bac_plant.proofs.WritesFirsts.{FirstIn, gets_first, ticks_first}
use Rattle.bac_plant.proofs.WritesGathering.{NoneWholeIn, ended_so, gathers_none}

-- an entry of that beginning, choice and request, which gathers no segments: it keeps a reply, or was given up; it is none of a read that came without SEG
pub record IsKeptEntry (begin choice : ℕ) (request : KeptOctets) (e : ServerTransaction) : Type 0 where
  pub begin_is : e.begin ≡ begin
  pub choice_is : e.choice ≡ choice
  pub request_is : kept_by e ≡ request
  pub gathered : IsSegmentedRequest e.state → ⊥
  pub no_read : is_read choice && is_some request.request ≡ false

-- Entries that are live.

pub live_until : (now : ℕ) (e : ServerTransaction) → now ≤ e.begin + KEEP → is_live now e ≡ true
live_until now e le = grind (arith, nat_tests)

pub live_is : (now : ℕ) (e : ServerTransaction) → is_live now e ≡ true → live_entry now (Some e) ≡ Some e
live_is now e live = ap (λ b. if b then Some e else None) live

pub from_live : (now : ℕ) (o : Option ServerTransaction) (e : ServerTransaction) → live_entry now o ≡ Some e → o ≡ Some e
from_live now None e is = absurd cc
from_live now (Some d) e is = go (is_live now d) is
  where
    go : (b : Bool) → (if b then Some d else None) ≡ Some e → Some d ≡ Some e
    go true is = is
    go false is = absurd cc

-- What an entry becomes.

same_kept : (e d : ServerTransaction) → d.request ≡ e.request → d.first ≡ e.first → kept_by d ≡ kept_by e
same_kept e d request first = λ i. record { request = request i; first = first i }

module _ (begin choice : ℕ) (request : KeptOctets) where
  abbrev pub Kept : ServerTransaction → Type 0
  Kept e = IsKeptEntry begin choice request e

  pub stays_kept : (e : ServerTransaction) (o : Option ServerTransaction) → Kept e → StaysIn e o → FirstIn e o → (d : ServerTransaction) × (o ≡ Some d) × Kept d
  stays_kept e None k stays one = absurd stays
  stays_kept e (Some d) k stays one = (
    d,
    refl,
    record {
      begin_is = stays.0.begin ∙ k.begin_is;
      choice_is = stays.0.choice ∙ k.choice_is;
      request_is = same_kept e d stays.0.request one ∙ k.request_is;
      gathered = gathers_none e.state d.state k.gathered stays.1;
      no_read = k.no_read;
    },
  )

  pub ticks_kept : (c : Context) (e : ServerTransaction) → is_live c.now e ≡ true → Kept e → (d : ServerTransaction) × ((server_ticks c (Some e)).entry ≡ Some d) × Kept d
  ticks_kept c e live k = stays_kept e (server_ticks c (Some e)).entry k (live_stays_law.ticks c e live) (ticks_first c e)

-- No APDU that is no other request ends such an entry.

and_false : (b : Bool) → b && false ≡ false
and_false true = refl
and_false false = refl

module _ (choice : ℕ) where
  not_of_read : (e : ServerTransaction) (request : Option Octets) → e.choice ≡ choice → e.request ≡ request → is_read choice && is_some request ≡ false
      → is_of_whole_read is_read e ≡ false
  not_of_read e request asked is none =
      ap (λ n. is_read n && is_some e.request) asked ∙ ap (λ (o : Option Octets). is_read choice && is_some o) is ∙ none

  unended_by : (e : ServerTransaction) (request first : Option Octets) → e.choice ≡ choice → e.request ≡ request → e.first ≡ first
      → is_read choice && is_some request ≡ false → (a : Apdu) → IsNoOtherThan choice request first a → is_ended_by is_read e a ≡ false
  unended_by e (Some kept) first asked is one none (ConfirmedRequest limits id None c octets) same_as =
      let read : is_read c ≡ false = same_as.2 in
      let same : nat_eq c e.choice ≡ true = let eq : c ≡ e.choice = same_as.0 ∙ sym asked in grind (arith, nat_tests) in
      let own : is_kept e e.request c octets ≡ true =
      ap (λ r. is_kept e r c octets) is ∙ ap (λ b. b && bytes_eq octets kept) same ∙ (bytes_eq-Decides octets kept).1 same_as.1 in
      ap (λ b. is_over e.state && (b || not (is_kept e e.request c octets))) read ∙ ap (λ b. is_over e.state && not b) own ∙ and_false (is_over e.state)
  unended_by e (Some kept) first asked is one none (ConfirmedRequest limits id (Some g) c octets) same_as =
      let later : nat_eq g.number 0 ≡ false = go (nat_eq g.number 0) refl in
      ap (λ b. is_over e.state && (b && is_other_first e e.first c octets)) later ∙ and_false (is_over e.state)
    where
      go : (b : Bool) → nat_eq g.number 0 ≡ b → b ≡ false
      go true eq = absurd (same_as (grind (arith, nat_tests)))
      go false eq = refl
  unended_by e None first asked is one none (ConfirmedRequest limits id None c octets) same_as = absurd same_as
  unended_by e None None asked is one none (ConfirmedRequest limits id (Some g) c octets) same_as =
      segment_stays is_read e limits id c g octets (λ zero. ap (λ (o : Option Octets). is_other_first e o c octets) one ∙ ap is_some is)
  unended_by e None (Some piece) asked is one none (ConfirmedRequest limits id (Some g) c octets) same_as =
      segment_stays is_read e limits id c g octets (λ zero.
      let same : nat_eq c e.choice ≡ true = let eq : c ≡ e.choice = (same_as zero).0 ∙ sym asked in grind (arith, nat_tests) in
      ap (λ (o : Option Octets). is_other_first e o c octets) one ∙ ap (λ b. not (b && bytes_eq octets piece)) same
      ∙ ap not ((bytes_eq-Decides octets piece).1 (same_as zero).1))
  unended_by e request first asked is one none (SegmentAck false id ack) same_as =
      ap (λ b. b && is_acknowledged_by e.state ack.number) (not_of_read e request asked is none)
  unended_by e request first asked is one none (Abort false id reason) same_as =
      ap (λ b. b && goes_in_segments e.state) (not_of_read e request asked is none)
  unended_by e request first asked is one none _ same_as = refl

  -- what a server that keeps such an entry makes of an APDU that is no other request
  pub record Rests (begin : ℕ) (request : KeptOctets) (v : Reaction) : Type 0 where
    pub effect : v.effect ≡ None
    pub entry : ServerTransaction
    pub entry_is : v.entry ≡ Some entry
    pub kept : IsKeptEntry begin choice request entry

  module _ (c : Context) (service : Service) (free : Bool) (begin : ℕ) (request : KeptOctets) (e : ServerTransaction)
      (live : is_live c.now e ≡ true) (k : IsKeptEntry begin choice request e) (a : Apdu) where
    abbrev goes : Reaction
    goes = server_on_apdu c service (Some e) free a

    none_may : MayPerform c.now (Some e) → ⊥
    none_may (inl dead) = let no : true ≡ false = sym live ∙ dead in cc
    none_may (inr more) = k.gathered more

    performs_none : (o : Option Effect) → goes.effect ≡ o → o ≡ None
    performs_none None is = refl
    performs_none (Some x) is = absurd (none_may (effects_are_kept.gets c service (Some e) free a x is).before)

    goes_rests : Rests begin request goes
    goes_rests =
        let d = stays_kept begin choice request e goes.entry k (live_stays_law.gets c service e free a live) (gets_first c service e free a live k.gathered) in
        record { effect = performs_none goes.effect refl; entry = d.0; entry_is = d.1; kept = d.2 }

    pub hears_rests : (reuse : Bool) → IsNoOther choice request a → Rests begin request (server_hears reuse c service is_read (Some e) free a)
    hears_rests false same_as = goes_rests
    hears_rests true same_as = subst (λ (v : Reaction). Rests begin request v)
        (sym (goes_on_where c service is_read e free live a (unended_by e request.request request.first k.choice_is (ap (λ (r : KeptOctets). r.request) k.request_is)
        (ap (λ (r : KeptOctets). r.first) k.request_is) k.no_read a same_as))) goes_rests

-- A write that is performed.

-- its choice and its octets, or that it came in segments
abbrev pub is_whole : Option Segment → Octets → Option Octets → Type 0
is_whole None octets request = request ≡ Some octets
is_whole (Some segment) octets request = Unit {0}

keeps_none : (c : Context) (choice : ℕ) (p : _) (s : State) → KeepsReply c choice p s → IsSegmentedRequest s → ⊥
keeps_none c choice p (State.SegmentedRequest inc since) kept more = kept
keeps_none c choice p (Done apdu) kept more = more
keeps_none c choice p (SegmentedResponse out transfer since) kept more = more
keeps_none c choice p Dropped kept more = more

-- an entry of a write in one APDU begins with it
abbrev pub IsBegunBy : (now : ℕ) → Option Segment → (choice : ℕ) → Octets → ServerTransaction → Type 0
IsBegunBy now None choice octets d = (d.begin ≡ now) × (d.choice ≡ choice) × (d.request ≡ Some octets)
IsBegunBy now (Some segment) choice octets d = Unit {0}

pub record Performs (now : ℕ) (segment : Option Segment) (choice : ℕ) (octets : Octets) (v : Reaction) : Type 0 where
  pub entry : ServerTransaction
  pub entry_is : v.entry ≡ Some entry
  pub live : is_live now entry ≡ true
  pub gathered : IsSegmentedRequest entry.state → ⊥
  pub no_read : is_of_whole_read is_read entry ≡ false
  pub begun : IsBegunBy now segment choice octets entry

module _ (c : Context) (service : Service) (free : Bool) (limits : Limits) (id choice : ℕ) (octets : Octets) where
  begun_now : (d : ServerTransaction) → d.begin ≡ c.now → is_live c.now d ≡ true
  begun_now d is = grind (arith, nat_tests)

  -- a whole request is performed where no entry is live
  live_none : (e : ServerTransaction) → is_live c.now e ≡ true → (x : Effect)
      → (server_on_apdu c service (Some e) free (ConfirmedRequest limits id None choice octets)).effect ≡ Some x → ⊥
  live_none e live x is = go e.state refl ((effects_are_kept.gets c service (Some e) free (ConfirmedRequest limits id None choice octets) x is).before)
    where
      goes : State → Option Effect
      goes s = (server.live_on_apdu c service e s (ConfirmedRequest limits id None choice octets)).effect

      here : goes e.state ≡ Some x
      here = sym (ap (λ b. (if b then server.live_on_apdu c service e e.state (ConfirmedRequest limits id None choice octets)
          else server.idle_on_apdu c service (Some e) free (ConfirmedRequest limits id None choice octets)).effect) live) ∙ is

      go : (s : State) → e.state ≡ s → (is_live c.now e ≡ false) ⊎ IsSegmentedRequest e.state → ⊥
      go s same (inl dead) = let no : true ≡ false = sym live ∙ dead in cc
      go (State.SegmentedRequest inc since) same (inr more) = let no : None ≡ Some x = sym (ap goes same) ∙ here in cc
      go (Done kept) same (inr more) = subst IsSegmentedRequest same more
      go (SegmentedResponse out transfer since) same (inr more) = subst IsSegmentedRequest same more
      go Dropped same (inr more) = subst IsSegmentedRequest same more

  whole_performs : is_read choice ≡ false → (o : Option ServerTransaction) (x : Effect)
      → (server_on_apdu c service o free (ConfirmedRequest limits id None choice octets)).effect ≡ Some x
      → Performs c.now None choice octets (server_on_apdu c service o free (ConfirmedRequest limits id None choice octets))
  whole_performs write o x is = go o x is (effects_are_kept.gets c service o free (ConfirmedRequest limits id None choice octets) x is)
    where
      a : Apdu
      a = ConfirmedRequest limits id None choice octets

      made : (v : Reaction) (d : ServerTransaction) → v.entry ≡ Some d → BeginsWith c.now a d → (IsSegmentedRequest d.state → ⊥) → Performs c.now None choice octets v
      made v d after begun none = record {
        entry = d;
        entry_is = after;
        live = begun_now d begun.begin;
        gathered = none;
        no_read = ap (λ n. is_read n && is_some d.request) begun.said.0 ∙ ap (λ b. b && is_some d.request) write;
        begun = (begun.begin, begun.said.0, begun.request);
      }

      go : (o : Option ServerTransaction) (x : Effect) → (server_on_apdu c service o free a).effect ≡ Some x
          → IsEffect c service o a x (server_on_apdu c service o free a).entry → Performs c.now None choice octets (server_on_apdu c service o free a)
      go None x is k = made (server_on_apdu c service None free a) k.entry k.after k.for (keeps_none c k.entry.choice x.reply k.entry.state k.kept)
      go (Some e) x is k = split (is_live c.now e) refl k.for
        where
          split : (b : Bool) → is_live c.now e ≡ b → IsEntryFor c.now (if b then Some e else None) a k.entry
              → Performs c.now None choice octets (server_on_apdu c service (Some e) free a)
          split true live for = absurd (live_none e live x is)
          split false dead for =
              made (server_on_apdu c service (Some e) free a) k.entry k.after for (keeps_none c k.entry.choice x.reply k.entry.state k.kept)

  -- with or without reuse
  left_is : is_read choice ≡ false → (o : Option ServerTransaction) (segment : Option Segment)
      → left_on_apdu c service is_read o free (ConfirmedRequest limits id segment choice octets)
      ≡ server_on_apdu c service o free (ConfirmedRequest limits id segment choice octets)
  left_is write o segment = go (is_none_live c.now o) refl
    where
      a : Option Segment → Apdu
      a s = ConfirmedRequest limits id s choice octets

      idle : (s : Option Segment) → idle_reusing c service is_read o free (a s) ≡ server.idle_on_apdu c service o free (a s)
      idle None = ap (λ b. if b then idle_on_read c service o free choice limits octets else idle_on_request c service o free choice limits octets) write
      idle (Some g) = refl

      go : (b : Bool) → is_none_live c.now o ≡ b
          → (if b then idle_reusing c service is_read o free (a segment) else server_on_apdu c service o free (a segment))
          ≡ server_on_apdu c service o free (a segment)
      go true none = idle segment ∙ sym (idle_is c service o free (a segment) none)
      go false some = refl

  segment_performs : (g : Segment) (o : Option ServerTransaction) → NoneWholeIn o → (x : Effect)
      → (server_on_apdu c service o free (ConfirmedRequest limits id (Some g) choice octets)).effect ≡ Some x
      → Performs c.now (Some g) choice octets (server_on_apdu c service o free (ConfirmedRequest limits id (Some g) choice octets))
  segment_performs g o was x is =
      let a : Apdu = ConfirmedRequest limits id (Some g) choice octets in
      let k = effects_are_kept.gets c service o free a x is in
      record {
        entry = k.entry;
        entry_is = k.after;
        live = alive o k.entry k.for;
        gathered = keeps_none c k.entry.choice x.reply k.entry.state k.kept;
        no_read = ap (λ (r : Option Octets). is_read k.entry.choice && is_some r) (kept_none o was k.before k.entry k.for) ∙ and_false (is_read k.entry.choice);
        begun = tt;
      }
    where
      kept_none : (o : Option ServerTransaction) → NoneWholeIn o → MayPerform c.now o → (d : ServerTransaction)
          → IsEntryFor c.now (live_entry c.now o) (ConfirmedRequest limits id (Some g) choice octets) d → d.request ≡ None
      kept_none None was may d for = for.request
      kept_none (Some e) was may d for = go (is_live c.now e) refl for may
        where
          go : (b : Bool) → is_live c.now e ≡ b → IsEntryFor c.now (if b then Some e else None) (ConfirmedRequest limits id (Some g) choice octets) d
              → (is_live c.now e ≡ false) ⊎ IsSegmentedRequest e.state → d.request ≡ None
          go true live same (inl dead) = absurd (let no : true ≡ false = sym live ∙ dead in cc)
          go true live same (inr gathers) = same.request ∙ was gathers
          go false dead for may = for.request

      alive : (o : Option ServerTransaction) (d : ServerTransaction)
          → IsEntryFor c.now (live_entry c.now o) (ConfirmedRequest limits id (Some g) choice octets) d → is_live c.now d ≡ true
      alive None d for = begun_now d for.begin
      alive (Some e) d for = go (is_live c.now e) refl for
        where
          go : (b : Bool) → is_live c.now e ≡ b
              → IsEntryFor c.now (if b then Some e else None) (ConfirmedRequest limits id (Some g) choice octets) d → is_live c.now d ≡ true
          go true live same = ap (λ (m : ℕ). nat_le (c.now - m) KEEP) same.begin ∙ live
          go false dead for = begun_now d for.begin

  goes_performs : is_read choice ≡ false → (segment : Option Segment) (o : Option ServerTransaction) → NoneWholeIn o → (x : Effect)
      → (server_on_apdu c service o free (ConfirmedRequest limits id segment choice octets)).effect ≡ Some x
      → Performs c.now segment choice octets (server_on_apdu c service o free (ConfirmedRequest limits id segment choice octets))
  goes_performs write None o was x is = whole_performs write o x is
  goes_performs write (Some g) o was x is = segment_performs g o was x is

  pub hears_performs : (reuse : Bool) → is_read choice ≡ false → (segment : Option Segment) (o : Option ServerTransaction) → NoneWholeIn o → (x : Effect)
      → (server_hears reuse c service is_read o free (ConfirmedRequest limits id segment choice octets)).effect ≡ Some x
      → Performs c.now segment choice octets (server_hears reuse c service is_read o free (ConfirmedRequest limits id segment choice octets))
  hears_performs false write segment o was x is = goes_performs write segment o was x is
  hears_performs true write segment o was x is =
      let ends : Bool = ends_entry is_read c.now o (ConfirmedRequest limits id segment choice octets) in
      let left : Option ServerTransaction = if ends then None else o in
      let same = left_is write left segment in
      subst (λ (v : Reaction). Performs c.now segment choice octets v) (sym same)
      (goes_performs write segment left (ended_so o was ends) x (sym (ap (λ (v : Reaction). v.effect) same) ∙ is))
