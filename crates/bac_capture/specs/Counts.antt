-- How many frames there are, by the result of checking them.
use Rattle.std.specs.Prelude.{◌≡◌, ◌<◌, ℕ, ◌+◌, List, replicate, slice_index, slice_set}
use Rattle.bac_text.specs.declared.bvlc.OtherBvll.{OtherBvll}
use Rattle.bac_text.specs.declared.bvlc.OtherBvll.TheVariants.{Ipv4, Ipv6}
use Rattle.bac_text.specs.Bvlc.{function_number}
use Rattle.bac_capture.specs.declared.check_fault.Verdict.{Verdict}
use Rattle.bac_capture.specs.declared.check_fault.Verdict.TheVariants.{Nothing, Good, Other, Bad}
use Rattle.bac_text.specs.declared.status.Status.{Status}
use Rattle.bac_text.specs.declared.status.Status.TheVariants.{Done, Faulty, CommandLine, Output, Memory}

abbrev pub good_in : Verdict → ℕ
good_in Nothing = 0
good_in Good = 1
good_in (Other other) = 0
good_in (Bad fault) = 0

abbrev pub bad_in : Verdict → ℕ
bad_in Nothing = 0
bad_in Good = 0
bad_in (Other other) = 0
bad_in (Bad fault) = 1

abbrev pub other_in : Verdict → ℕ
other_in Nothing = 0
other_in Good = 0
other_in (Other other) = 1
other_in (Bad fault) = 0

-- BVLLs with other functions are counted separately: those over IPv4 at the index of their number, and all over IPv6 at the last index
abbrev pub OTHERS : ℕ
OTHERS = 14

abbrev pub place_of : OtherBvll → ℕ
place_of (Ipv4 function) = function_number function
place_of Ipv6 = 13

abbrev pub others_after : List ℕ → Verdict → List ℕ
others_after others Nothing = others
others_after others Good = others
others_after others (Other other) = slice_set others (place_of other) (slice_index others (place_of other) + 1)
others_after others (Bad fault) = others

-- all frames, and those whose datagram is good, bad and of another function, these also by function
pub record Counts : Type 0 where
  pub frames : ℕ
  pub good : ℕ
  pub bad : ℕ
  pub other : ℕ
  pub others : List ℕ

abbrev pub no_frames : Counts
no_frames = record { frames = 0; good = 0; bad = 0; other = 0; others = replicate OTHERS 0 }

-- one more frame
abbrev pub counted : Counts → Verdict → Counts
counted c v = record {
  frames = c.frames + 1;
  good = c.good + good_in v;
  bad = c.bad + bad_in v;
  other = c.other + other_in v;
  others = others_after c.others v;
}

-- what the status implies about bad frames
abbrev pub IsTallied : ℕ → Status → Type 0
IsTallied bad Done = bad ≡ 0
IsTallied bad Faulty = 0 < bad
IsTallied bad CommandLine = ⊥
IsTallied bad Output = ⊥
IsTallied bad Memory = ⊥
