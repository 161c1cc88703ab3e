-- From each type in code to its plain value.
use Rattle.std.specs.Option.{option_map}
use Rattle.bac_service.specs.Views.{priority_view}
use Rattle.bac_service_text.specs.BadWords.{Bad}
use Rattle.bac_service_text.specs.WriteProperty as plain
use Rattle.bac_service_text.specs.declared.bad_words.BadWord.{BadWord}
use Rattle.bac_service_text.specs.declared.write_property.Written.{Written}

abbrev pub written_view : Written → plain.Written
written_view w = (w.octets.items, priority_view w.priority)

abbrev pub bad_word_view : BadWord → Bad
bad_word_view b = (b.wanted, option_map (λ w. w.now) b.word)
