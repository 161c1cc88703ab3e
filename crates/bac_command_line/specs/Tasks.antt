-- What a command line asks for, and what the status of doing it says.
use Rattle.std.specs.Prelude.{◌≡◌, ◌⊎◌, ⊤, ℕ, List, Option, map}
use Rattle.std.specs.Option.{option_map}
use Rattle.bac_npdu.specs.Views.{peer_view}
use Rattle.bac_text.specs.Statuses.{IsFailure}
use Rattle.bac_text.specs.declared.status.Status.{Status}
use Rattle.bac_text.specs.declared.status.Status.TheVariants as status
use Rattle.bac_asking.specs.Asked.{AreAskedFrom}
use Rattle.bac_reading.specs.Decodings.{IsDecodedFrom}
use Rattle.bac_reading.specs.Reports.{IsReportedFile}
use Rattle.bac_reading.specs.Scripts.{IsRunFile}
use Rattle.bac_serving.specs.Forgetting.{Forgettings, IsForgotten}
use Rattle.bac_serving.specs.Keeping.{Databases, IsListed, IsServedKept}
use Rattle.bac_serving.specs.Listing.{Listings, Lists}
use Rattle.bac_serving.specs.Looking.{IsServedLooking}
use Rattle.bac_serving.specs.Stores.{IsAnsweredFrom, IsServedFrom}
use Rattle.bac_asking.specs.AskedOne.{IsAskedFrom}
use Rattle.bac_environment.specs.Sockets.{Clocks, Links}
use Rattle.bac_asking.specs.Online.{IsPair}
use Rattle.bac_files.specs.WholeFiles.{IsFiled}
use Rattle.bac_points.specs.Points.{ArePoints}
use Rattle.bac_command_line.specs.declared.task.Task.{Task}
use Rattle.bac_command_line.specs.declared.task.Task.TheVariants as task

-- what is told of the program has no fault: all of it was printed, or the status says why not
abbrev pub IsTold : Status → Type 0
IsTold status.Done = ⊤
IsTold status.Faulty = ⊥
IsTold status.CommandLine = ⊤
IsTold status.Output = ⊤
IsTold status.Memory = ⊤

-- the status of a task stays, or its last octets could not be written
abbrev pub IsAtEnd : Status → Status → Type 0
IsAtEnd s end = (end ≡ s) ⊎ IsFailure end

-- that very command was done: of that datagram, file, port or request
abbrev pub IsPerformed : (IsAt : (path : List ℕ) → (content : Option (List ℕ)) → Type 0)
    → Links → Clocks → Databases → Task → Status → (old new : Option (List ℕ)) → Type 0
IsPerformed IsAt IsOn IsClock IsOnDatabase (task.Answer datagram objects) s old new =
    IsAnsweredFrom IsAt (option_map (λ p. p.now) objects) datagram.now s old new
IsPerformed IsAt IsOn IsClock IsOnDatabase (task.Decode decoding datagrams) s old new = IsDecodedFrom IsAt decoding datagrams.now s old new
IsPerformed IsAt IsOn IsClock IsOnDatabase (task.Report report capture) s old new = IsReportedFile IsAt report capture.path.now capture.port s old new
IsPerformed IsAt IsOn IsClock IsOnDatabase (task.Simulate view script) s old new = IsRunFile IsAt view script.notes script.path.now s old new
IsPerformed IsAt IsOn IsClock IsOnDatabase (task.Serve serving objects) s old new =
    IsServedFrom IsAt (option_map (λ p. p.now) objects) IsOn IsClock s serving old new
IsPerformed IsAt IsOn IsClock IsOnDatabase (task.ServeLooking serving objects) s old new =
    IsServedLooking IsAt (option_map (λ p. p.now) objects) IsOn IsClock s serving old new
IsPerformed IsAt IsOn IsClock IsOnDatabase (task.ServeKept serving objects path) s old new =
    IsServedKept IsAt (option_map (λ p. p.now) objects) IsOnDatabase IsOn IsClock s serving path.now old new
IsPerformed IsAt IsOn IsClock IsOnDatabase (task.Keep path loss form) s old new = IsListed s old new
IsPerformed IsAt IsOn IsClock IsOnDatabase (task.Forget forgetting) s old new = IsListed s old new
IsPerformed IsAt IsOn IsClock IsOnDatabase (task.Ask asking peer words) s old new =
    IsAskedFrom IsAt IsOn IsClock s asking (peer_view peer) (map (λ w. w.now) words.now) old new
IsPerformed IsAt IsOn IsClock IsOnDatabase (task.AskLines asking default path) s old new =
    AreAskedFrom IsAt IsOn IsClock s asking (option_map peer_view default) path.now old new
IsPerformed IsAt IsOn IsClock IsOnDatabase (task.Files file work) s old new = IsFiled s
IsPerformed IsAt IsOn IsClock IsOnDatabase (task.Points points) s old new = ArePoints IsAt IsOn IsClock points s old new
IsPerformed IsAt IsOn IsClock IsOnDatabase task.Pair s old new = IsPair IsOn IsClock s old new
IsPerformed IsAt IsOn IsClock IsOnDatabase (task.Tell telling) s old new = IsTold s

-- if it is to list, what is kept was printed
abbrev pub ListsAsAsked : Listings → Task → Status → (old new : Option (List ℕ)) → Type 0
ListsAsAsked IsOnListed (task.Keep path loss form) s old new = Lists IsOnListed s form path.now old new
ListsAsAsked IsOnListed _ s old new = ⊤

-- if it is to forget, that was forgotten
abbrev pub ForgetsAsAsked : Forgettings → Task → Status → (old new : Option (List ℕ)) → Type 0
ForgetsAsAsked IsOnForgotten (task.Forget f) s old new =
    IsForgotten IsOnForgotten s f.path.now f.object.now (option_map (λ p. p.now) f.property) old new
ForgetsAsAsked IsOnForgotten _ s old new = ⊤
