-- The choices of services and of their requests.
use Rattle.std.proofs.Common.{◌≡◌, refl}
use Rattle.bac_service.specs.declared.service.Service.{Service}
use Rattle.bac_service.specs.declared.service.Service.TheVariants as service
use Rattle.bac_service.specs.Choices.{choice_number, is_read_choice, is_read_service}
use Rattle.bac_service.specs.Values.{service_asked}
use Rattle.bac_service.specs.Values.{Request, choice_of}
use Rattle.bac_service.specs.Values.Request.{ReadFile, WriteFile, ReadProperty, WriteProperty}

-- the choice of a request is that of its service
pub choice_asked : (r : Request) → choice_number (service_asked r) ≡ choice_of r
choice_asked (ReadFile file access) = refl
choice_asked (WriteFile file access) = refl
choice_asked (ReadProperty r) = refl
choice_asked (WriteProperty r values priority) = refl

-- the choices of reads are those of the services that read
pub read_choice : (s : Service) → is_read_service s ≡ is_read_choice (choice_number s)
read_choice service.AtomicReadFile = refl
read_choice service.AtomicWriteFile = refl
read_choice service.ReadProperty = refl
read_choice service.WriteProperty = refl
