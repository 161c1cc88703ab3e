-- The results of reading whole service data, collected for crates above.
pub use Rattle.bac_service.specs.Choices.{service_at}
unfoldable pub use Rattle.bac_service.specs.Requests.{request_at}
unfoldable pub use Rattle.bac_service.specs.Replies.{complex_at}
pub use Rattle.bac_service.specs.Replies.{is_read, reads_reply}
