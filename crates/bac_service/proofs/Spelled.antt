-- Writers append spellings, collected for crates above.
pub use Rattle.bac_service.proofs.Wholes.{request_spelled, complex_spelled}
