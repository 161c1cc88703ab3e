use Rattle.bac_service.proofs.Wholes.{complex_again, complex_takes, complex_has_octets, reply_is_read, read_is_reply}
use Rattle.bac_service.proofs.laws.replies_are_read.Goals as goal

pub returns : goal.returns
returns c = record {
  read = λ choice c bytes. complex_again choice bytes c;
  spelled = λ choice c bytes. complex_takes choice bytes c;
  some = complex_has_octets;
  readable = reply_is_read;
  only = read_is_reply;
}
