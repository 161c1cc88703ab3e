-- The one spelling of each request and of the service data of each ComplexACK, collected for crates above.
pub use Rattle.bac_service.specs.Requests.{request_spelling}
pub use Rattle.bac_service.specs.Replies.{complex_spelling}
