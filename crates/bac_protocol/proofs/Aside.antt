-- What a node does with strangers leaves what nodes have among themselves as it was.
use Rattle.std.proofs.Common.{◌≡◌, ℕ, ◌+◌, Bool, List, ◌∷◌, Option, Some, None, refl, inr}
use Rattle.bac_protocol.specs.Service.{Ending}
use Rattle.bac_protocol.specs.Client as client
use Rattle.bac_protocol.specs.Client.{Ask, ClientTransaction, asked_ticket, request_of}
use Rattle.bac_protocol.specs.Server as server
use Rattle.bac_protocol.specs.Server.{Effect}
use Rattle.bac_protocol.specs.Log.{Fact, Has}
use Rattle.bac_protocol.specs.Log.Fact.{AskedAway}
use Rattle.bac_protocol.specs.Transaction.{Key, Rules, client_context, ended_away, served}
use Rattle.bac_protocol.specs.World.{Net, Strangers, with_node, set_at, begin_of, client_now, client_acts_away, server_acts_away, asked_away_at}
use Rattle.bac_protocol.proofs.Resting.{Unasked, UnaskedIn, Unserved, UnservedIn, unasked_more, unserved_acts_away}

pub record IsAside (n m : Net) : Type 0 where
  pub asks : ℕ
  pub asked : ℕ → Bool
  pub served : ℕ → Bool
  pub far : Strangers
  pub log : List Fact
  pub grows : (f : Fact) → Has f n.log → Has f log
  pub unasked : Unasked n → UnaskedIn asked n.tickets n.restarted n.sends_until
  pub unserved : Unserved n → UnservedIn served n.entries far.entries n.serves_from
  pub is : m ≡ record n { asks = asks; asked = asked; served = served; far = far; log = log }

pub still_aside : (n : Net) → IsAside n n
still_aside n = record { asks = n.asks; asked = n.asked; served = n.served; far = n.far; log = n.log; grows = λ f h. h; unasked = λ h. h; unserved = λ h. h; is = refl }

ended_grows : (number : ℕ) (o : Option Ending) (log : List Fact) (f : Fact) → Has f log → Has f (ended_away number o log)
ended_grows number None log f h = h
ended_grows number (Some how) log f h = inr h

served_grows : (key : Key) (begin : ℕ) (o : Option Effect) (log : List Fact) (f : Fact) → Has f log → Has f (served key begin o log)
served_grows key begin None log f h = h
served_grows key begin (Some x) log f h = inr h

pub client_aside : (n : Net) (key : Key) (t : ClientTransaction) (r : client.Reaction) → IsAside n (client_acts_away n key t r)
client_aside n key t r = record {
  asks = n.asks;
  asked = n.asked;
  served = n.served;
  far = record (n.far) { tickets = set_at n.far.tickets key (Some (client.after (client_now n key) t r)) };
  log = ended_away (n.far.numbers key) (client.ending_of r) n.log;
  grows = ended_grows (n.far.numbers key) (client.ending_of r) n.log;
  unasked = λ h. h;
  unserved = λ h. h;
  is = refl;
}

pub server_aside : (n : Net) (key : Key) (v : server.Reaction) → IsAside n (server_acts_away n key v)
server_aside n key v = record {
  asks = n.asks;
  asked = n.asked;
  served = with_node key.server n.served;
  far = record (n.far) { entries = set_at n.far.entries key v.entry };
  log = served key (begin_of v.entry) v.effect n.log;
  grows = served_grows key (begin_of v.entry) v.effect n.log;
  unasked = λ h. h;
  unserved = λ h. unserved_acts_away n h key v.entry;
  is = refl;
}

pub asked_aside : (x : Rules) (n : Net) (key : Key) (ask : Ask) → IsAside n (asked_away_at x n key ask)
asked_aside x n key ask = record {
  asks = n.asks + 1;
  asked = with_node key.client n.asked;
  served = n.served;
  far = record (n.far) {
    numbers = set_at n.far.numbers key n.asks;
    tickets = set_at n.far.tickets key (Some (asked_ticket (client_context x key (client_now n key)) ask));
  };
  log = AskedAway n.asks key.client key.server (request_of ask) ∷ n.log;
  grows = λ f h. inr h;
  unasked = λ h. unasked_more n h key.client;
  unserved = λ h. h;
  is = refl;
}
