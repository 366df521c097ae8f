pub mod BytesLaws
