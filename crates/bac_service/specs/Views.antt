-- The abstract values of the types in code, collected for crates above.
pub use Rattle.bac_service.specs.Sights.{lent, owned}
pub use Rattle.bac_service.specs.References.{property_reference_view}
pub use Rattle.bac_service.specs.AtomicReadFile.{read_access_view}
pub use Rattle.bac_service.specs.AtomicWriteFile.{write_access_view, file_written_view}
pub use Rattle.bac_service.specs.WriteProperty.{priority_view}
pub use Rattle.bac_service.specs.Requests.{RequestOver, request_over_view, request_view, owned_request_view}
pub use Rattle.bac_service.specs.Replies.{ComplexOver, complex_over_view, complex_view, owned_complex_view, reply_view, owned_reply_view}
