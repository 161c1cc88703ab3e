-- Each request and each service data of a ComplexACK has one spelling, and octets encode at most one of them; collected for crates above.
pub use Rattle.bac_service.proofs.Wholes.{one_spelling, one_request, one_complex_spelling, one_complex}
