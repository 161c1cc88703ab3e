-- Requests and replies as they are seen, and how an APDU relates to them.
use Rattle.std.specs.Prelude.{ℕ, ◌+◌, ◌-◌, Bool, true, false, nat_le, nat_lt, ◌==◌, ◌&&◌, ◌||◌, if◌then◌else◌, List, Option, Some, None}
use Rattle.std.specs.Cmp.Lexicographic.{pointwise}
use Rattle.bac_explain.specs.declared.grant.Grant.{Grant}
use Rattle.bac_explain.specs.declared.numbers.TheConstants.{ROUND}
use Rattle.bac_explain.specs.declared.part.Taken.{Taken}
use Rattle.bac_explain.specs.declared.sent.Place.{Place}
use Rattle.bac_explain.specs.declared.sent.Place.TheVariants.{Again, Next, Back, Ahead, Other}
use Rattle.bac_explain.specs.Grants.{asked_again, at_first, begun_again, moved, sent}
use Rattle.bac_explain.specs.Numbers.{ahead, following, is_ahead, more_by, one_more}
use Rattle.bac_explain.specs.Wholes.{is_end}

-- when it was first seen, the octets of that APDU, how many times they were seen, how many other segments, the number of the last segment,
-- how many precede that one, when the last was seen, whether its end was, and which segments may be sent
pub record SentView : Type 0 where
  pub moment : ℕ
  pub octets : List ℕ
  pub times : ℕ
  pub segments : ℕ
  pub number : ℕ
  pub index : ℕ
  pub last : ℕ
  pub whole : Bool
  pub grant : Grant

-- an unsegmented APDU counts as number 0
abbrev pub number_in : Option ℕ → ℕ
number_in None = 0
number_in (Some number) = number

-- if the first that is seen is a later segment, numbers may have wrapped before it
abbrev pub first_index : ℕ → ℕ
first_index number = if number == 0 then 0 else 256 + number

abbrev pub first_sent : ℕ → Option ℕ → List ℕ → SentView
first_sent now number octets = record {
  moment = now;
  octets = octets;
  times = 1;
  segments = 0;
  number = number_in number;
  index = first_index (number_in number);
  last = now;
  whole = is_end octets;
  grant = at_first number;
}

-- the octets are equal
abbrev pub are_same : List ℕ → List ℕ → Bool
are_same = pointwise (λ a b. a == b)

-- not ahead by less than half of all numbers, and no further behind than the first segment
abbrev pub is_back : SentView → ℕ → Bool
is_back s number = nat_le (ahead number s.number) s.index

abbrev pub numbered_place : SentView → ℕ → Place
numbered_place s number = if is_ahead s.number number then Ahead else (if is_back s number then Back else Ahead)

-- a segment 0 with other octets begins another request or reply, until so many were seen that numbers may have wrapped
abbrev pub begins_anew : SentView → ℕ → Bool
begins_anew s number = number == 0 && nat_lt s.segments ROUND

abbrev pub other_place : SentView → Option ℕ → Place
other_place s None = Other
other_place s (Some number) = if begins_anew s number then Other else numbered_place s number

abbrev pub unlike_next : SentView → Option ℕ → List ℕ → Place
unlike_next s number octets = if are_same s.octets octets then Again else other_place s number

-- how an APDU relates: a segment with this number, or an unsegmented one
abbrev pub place_of : SentView → Option ℕ → List ℕ → Place
place_of s None octets = unlike_next s None octets
place_of s (Some number) octets = if following s.number number then Next else unlike_next s (Some number) octets

abbrev pub is_other : Place → Bool
is_other Again = false
is_other Next = false
is_other Back = false
is_other Ahead = false
is_other Other = true

-- how many precede the repeated first one, or a segment that is behind or ahead
abbrev pub index_after : Place → ℕ → SentView → ℕ
index_after Again number s = first_index number
index_after Next number s = more_by (ahead s.number number) s.index
index_after Back number s = s.index - ahead number s.number
index_after Ahead number s = more_by (ahead s.number number) s.index
index_after Other number s = s.index

-- the first one again
abbrev pub with_first : ℕ → Option ℕ → SentView → SentView
with_first now number s = record s {
  times = one_more s.times;
  number = number_in number;
  index = index_after Again (number_in number) s;
  last = now;
  grant = begun_again s.grant;
}

abbrev pub with_segment : ℕ → Place → Option ℕ → List ℕ → SentView → SentView
with_segment now place number octets s = record s {
  segments = one_more s.segments;
  number = number_in number;
  index = index_after place (number_in number) s;
  last = now;
  whole = s.whole || is_end octets;
  grant = sent number s.grant;
}

-- an APDU in this relation is counted
abbrev pub counted : ℕ → Place → Option ℕ → List ℕ → SentView → SentView
counted now Again number octets s = with_first now number s
counted now Next number octets s = with_segment now Next number octets s
counted now Back number octets s = with_segment now Back number octets s
counted now Ahead number octets s = with_segment now Ahead number octets s
counted now Other number octets s = s

-- a SegmentACK for its segments was seen
abbrev pub with_taken : Taken → SentView → SentView
with_taken taken s = record s { grant = moved taken s.grant }

-- the request that it replies to was sent again
abbrev pub with_asked_again : SentView → SentView
with_asked_again s = record s { grant = asked_again s.grant }
