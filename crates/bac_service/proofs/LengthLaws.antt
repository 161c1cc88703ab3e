-- The computed lengths are those of the spellings, collected for crates above.
pub use Rattle.bac_service.proofs.Wholes.{length_request, length_complex}
