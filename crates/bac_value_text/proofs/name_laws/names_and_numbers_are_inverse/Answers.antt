use Rattle.std.proofs.Common.{◌≡◌, true, refl}
use Rattle.bac_value_text.specs.ObjectTypes.{OBJECT_TYPES}
use Rattle.bac_value_text.specs.AbortReasons.{ABORT_REASONS}
use Rattle.bac_value_text.specs.ErrorClasses.{ERROR_CLASSES}
use Rattle.bac_value_text.specs.ErrorCodes as code
use Rattle.bac_value_text.specs.RejectReasons.{REJECT_REASONS}
use Rattle.bac_value_text.specs.Properties.{PROPERTIES, A_TO_B, C, D_TO_E, F_TO_L, M_TO_N, O_TO_P, R_TO_S, T_TO_Z}
use Rattle.bac_value_text.proofs.Inverse.{inverse, names_apart, numbers_apart}
use Rattle.bac_value_text.proofs.name_laws.names_and_numbers_are_inverse.Goals as goal

types_numbers : numbers_apart OBJECT_TYPES ≡ true
unfolding OBJECT_TYPES
types_numbers = refl

types_names : names_apart OBJECT_TYPES ≡ true
unfolding OBJECT_TYPES
types_names = refl

numbers : numbers_apart PROPERTIES ≡ true
unfolding A_TO_B C D_TO_E F_TO_L M_TO_N O_TO_P R_TO_S T_TO_Z
numbers = refl

names : names_apart PROPERTIES ≡ true
unfolding A_TO_B C D_TO_E F_TO_L M_TO_N O_TO_P R_TO_S T_TO_Z
names = refl

pub returns-clause-object_types : goal.returns-clause-object_types
returns-clause-object_types c = inverse OBJECT_TYPES types_numbers types_names

pub returns-clause-properties : goal.returns-clause-properties
returns-clause-properties c = inverse PROPERTIES numbers names

error_classes_numbers : numbers_apart ERROR_CLASSES ≡ true
unfolding ERROR_CLASSES
error_classes_numbers = refl

error_classes_names : names_apart ERROR_CLASSES ≡ true
unfolding ERROR_CLASSES
error_classes_names = refl

pub returns-clause-error_classes : goal.returns-clause-error_classes
returns-clause-error_classes c = inverse ERROR_CLASSES error_classes_numbers error_classes_names

error_codes_numbers : numbers_apart code.ERROR_CODES ≡ true
unfolding code.A_TO_C code.D_TO_K code.L_TO_R code.S_TO_Z
error_codes_numbers = refl

error_codes_names : names_apart code.ERROR_CODES ≡ true
unfolding code.A_TO_C code.D_TO_K code.L_TO_R code.S_TO_Z
error_codes_names = refl

pub returns-clause-error_codes : goal.returns-clause-error_codes
returns-clause-error_codes c = inverse code.ERROR_CODES error_codes_numbers error_codes_names

reject_reasons_numbers : numbers_apart REJECT_REASONS ≡ true
unfolding REJECT_REASONS
reject_reasons_numbers = refl

reject_reasons_names : names_apart REJECT_REASONS ≡ true
unfolding REJECT_REASONS
reject_reasons_names = refl

pub returns-clause-reject_reasons : goal.returns-clause-reject_reasons
returns-clause-reject_reasons c = inverse REJECT_REASONS reject_reasons_numbers reject_reasons_names

abort_reasons_numbers : numbers_apart ABORT_REASONS ≡ true
unfolding ABORT_REASONS
abort_reasons_numbers = refl

abort_reasons_names : names_apart ABORT_REASONS ≡ true
unfolding ABORT_REASONS
abort_reasons_names = refl

pub returns-clause-abort_reasons : goal.returns-clause-abort_reasons
returns-clause-abort_reasons c = inverse ABORT_REASONS abort_reasons_numbers abort_reasons_names
