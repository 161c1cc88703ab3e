-- The C library's heap as the allocator of a box of a device: what calls of `Box::into_raw` and `Box::from_raw` ask of it.
use Rattle.std.proofs.Common.{[], ◌∷◌, refl}
use mir.Syntax.{Dict, impl, tnil, tcons, dnil}
use denote.RattleType.{RattleType}
use mir.Raw.{raw as bare}
use denote.Exit.{no}
use denote.Param.{layout, arg}
use denote.Param.Laws.{Laws, Told, arg_laws}
use Rattle.std.specs.contracts.alloc.Global as global
use Rattle.std.specs.contracts.boxed.Box as box
use Rattle.std.specs.contracts.impls.GlobalAllocator.TheImpl.{ghosts}
use Rattle.std.proofs.alloc.Global.TheLaws as global_laws
use Rattle.std.proofs.boxed.Box.TheLaws as box_laws
use Rattle.bac_c.specs.contracts.device.Device as device
use Rattle.bac_c.proofs.device.Device.TheLaws as device_laws
use Rattle.bac_c.proofs.Destruct++none.drop.Symbol.{symbol}

-- as arguments of a call
abbrev pub D : RattleType
D = arg (bare (layout device.the_row)) no device.the_row

abbrev pub D-laws : Laws D
D-laws = arg_laws (bare (layout device.the_row)) no device.the_row device_laws.the_row_laws refl

abbrev pub Z : RattleType
Z = arg (bare (layout global.the_row)) no global.the_row

abbrev pub Z-laws : Laws Z
Z-laws = arg_laws (bare (layout global.the_row)) no global.the_row global_laws.the_row_laws refl

abbrev pub Z-told : Told global.the_row
Z-told = global_laws.the_told

abbrev pub B : RattleType
B = box.the_row device.the_row global.the_row ghosts

abbrev pub B-laws : Laws B
B-laws = box_laws.the_row_laws device.the_row global.the_row ghosts device_laws.the_row_laws global_laws.the_row_laws

abbrev pub Z-drop : Dict
Z-drop = impl (symbol ∷ []) (tcons (layout Z) tnil) dnil
